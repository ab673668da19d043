-- A number for each dot on a right side: a rule, and how many symbols are still to come.
use Rattle.std.proofs.Common.{◌≡◌, ℕ, zero, suc, ◌+◌, ◌<◌, [], ◌∷◌, length, refl, ap, arith}
use Rattle.grammar.specs.Grammar.{Grammar, rule, added_up}
use Rattle.grammar.proofs.Sizes.{symbol_count}

abbrev pub dots_before : Grammar → ℕ → ℕ
dots_before [] r = 0
dots_before (x ∷ g) zero = 0
dots_before (x ∷ g) (suc r) = length x.right + dots_before g r

pub dot_code_below : (g : Grammar) (r l : ℕ) → r < length g → l < length (rule g r).right → dots_before g r + l < symbol_count g
unfolding rule added_up
dot_code_below [] r l h k = absurd (omega arith)
dot_code_below (x ∷ g) zero l h k = omega arith
dot_code_below (x ∷ g) (suc r) l h k = let i = dot_code_below g r l (omega arith) k in omega arith

pub dot_code_once : (g : Grammar) (r l q m : ℕ) → r < length g → l < length (rule g r).right → q < length g → m < length (rule g q).right →
    dots_before g r + l ≡ dots_before g q + m → (r ≡ q) × (l ≡ m)
unfolding rule
dot_code_once [] r l q m h k i j e = absurd (omega arith)
dot_code_once (x ∷ g) zero l zero m h k i j e = (refl, omega arith)
dot_code_once (x ∷ g) zero l (suc q) m h k i j e = absurd (omega arith)
dot_code_once (x ∷ g) (suc r) l zero m h k i j e = absurd (omega arith)
dot_code_once (x ∷ g) (suc r) l (suc q) m h k i j e =
    let p = dot_code_once g r l q m (omega arith) k (omega arith) j (omega arith) in (ap suc p.0, p.1)
