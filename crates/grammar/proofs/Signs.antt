-- Rows that are signs only.
use Rattle.std.proofs.Common.{◌≡◌, ℕ, true, List, [], ◌∷◌, ◌++◌, refl, ap, ap₂}
use Rattle.grammar.specs.Grammar.{every, each, Sym, sign, name, signs, is_sign, all_signs}
use Rattle.grammar.proofs.Lists.{never, each_append}

pub signs_append : (v w : List ℕ) → signs (v ++ w) ≡ signs v ++ signs w
signs_append v w = each_append (λ t. sign t) v w

pub signs_once : (v w : List ℕ) → signs v ≡ signs w → v ≡ w
unfolding each
signs_once [] [] e = refl
signs_once [] (t ∷ w) e = never (cc)
signs_once (s ∷ v) [] e = never (cc)
signs_once (s ∷ v) (t ∷ w) e = let z : s ≡ t = cc in ap₂ (λ x y. x ∷ y) z (signs_once v w (cc))

pub all_signs_signs : (w : List ℕ) → all_signs (signs w) ≡ true
unfolding every each is_sign
all_signs_signs [] = refl
all_signs_signs (t ∷ w) = all_signs_signs w

pub as_signs : (f : List Sym) → all_signs f ≡ true → (w : List ℕ) × (f ≡ signs w)
unfolding every each is_sign
as_signs [] h = ([], refl)
as_signs (sign t ∷ f) h = let p = as_signs f h in (t ∷ p.0, ap (λ k. sign t ∷ k) p.1)
as_signs (name n ∷ f) h = never (cc)
