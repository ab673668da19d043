-- The lookaheads that closure sets are those of FIRST.
use Rattle.std.proofs.Common.{◌≡◌, ℕ, ◌<◌, true, List, [], ◌∷◌, ◌++◌, length, sym, refl, ◌∙◌, subst, inl, inr, append_assoc}
use Rattle.grammar.specs.Grammar.{every, Sym, name, Grammar, rule, AllUseful}
use Rattle.grammar.specs.Trees.{Yields}
use Rattle.grammar.proofs.Lists.{every_parts}
use Rattle.grammar.proofs.Useful.{known, right_known}
use Rattle.grammar.proofs.First.{vanishes_of, of_vanishes, opens_of, of_opens}
use Rattle.items.specs.Items.{first_or, Valid, close}
use Rattle.items.specs.First.{InFirst}
use Rattle.items.specs.Statements.{ClosureByFirst}
use Rattle.items.proofs.Items.{done_part}

pub in_first_of : {g : Grammar} {β : List Sym} {v rs : List ℕ} (t : ℕ) → Yields g β v rs → InFirst g β t (first_or v t)
in_first_of {g} {β} {v} {rs} t D = go v refl
  where
    go : (w : List ℕ) → v ≡ w → InFirst g β t (first_or w t)
    go [] e = inr (vanishes_of e D, refl)
    go (x ∷ w) e = inl (opens_of x w e D)

pub of_in_first : (g : Grammar) → AllUseful g → {β : List Sym} (t u : ℕ) → every (known g) β ≡ true → InFirst g β t u →
    (v rs : List ℕ) × Yields g β v rs × (first_or v t ≡ u)
of_in_first g useful t u h (inl O) = let k = of_opens g useful h O in (u ∷ k.0, k.1, k.2, refl)
of_in_first g useful t u h (inr p) = let k = of_vanishes p.0 in ([], k.0, k.1, sym p.1)

-- what is behind the next symbol of a valid item stands on a right side
pub behind_known : {g : Grammar} {γ : List Sym} {r : ℕ} {x : Sym} {β : List Sym} {t : ℕ} → Valid g γ r (x ∷ β) t → every (known g) β ≡ true
behind_known {g} {γ} {r} {x} {β} v =
    let p = done_part v in
    let e : (rule g r).right ≡ (p.0 ++ x ∷ []) ++ β = p.1 ∙ sym (append_assoc p.0 (x ∷ []) β) in
    (every_parts (known g) (p.0 ++ x ∷ []) β (subst (λ f. every (known g) f ≡ true) e (right_known g r))).1

pub close_by_first : {g : Grammar} → AllUseful g → {γ : List Sym} {r n : ℕ} {β : List Sym} {t : ℕ} (u q : ℕ) → q < length g → (rule g q).left ≡ n →
    Valid g γ r (name n ∷ β) t → InFirst g β t u → Valid g γ q (rule g q).right u
close_by_first {g} useful {γ} {t = t} u q lt l v i =
    let k = of_in_first g useful t u (behind_known v) i in
    subst (λ x. Valid g γ q (rule g q).right x) k.3 (close q lt l v k.2)

pub closure_by_first_lem : ClosureByFirst
unfolding ClosureByFirst
closure_by_first_lem g γ r n β t q useful lt l v = (λ w rs D. in_first_of t D, λ u i. close_by_first useful u q lt l v i)
