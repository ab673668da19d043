-- The configurations of a run as numbers: below a bound, if its stacks are small.
use Rattle.std.proofs.Common.{◌≡◌, ℕ, suc, ◌+◌, ◌*◌, ◌^◌, ◌<◌, ◌≤◌, List, [], ◌∷◌, ◌++◌, length, refl, arith}
use Rattle.grammar.specs.Grammar.{Sym, sign, name, Grammar, rule}
use Rattle.items.specs.Items.{onto, lookahead, Valid}
use Rattle.parser.proofs.Pigeonhole.{AllBelow}
use Rattle.parser.proofs.StackCodes.{Stackable, stack_code, stack_code_below, pair_below}

pub record Bounded (l : ℕ) (γ : List Sym) : Type 0 where
  pub small : Stackable γ
  pub short : length γ ≤ l

-- a run whose stacks all are bounded
pub data BoundedRun (g : Grammar) (l : ℕ) : List Sym → List ℕ → List Sym → List ℕ → List ℕ → Type 0 where
  stay_bounded : {γ : List Sym} {ρ : List ℕ} → Bounded l γ → BoundedRun g l γ [] γ ρ []
  shift_bounded : {γ γ' : List Sym} {us ρ rs : List ℕ} {t r : ℕ} {β : List Sym} {u : ℕ} → Bounded l γ → Valid g γ r (sign t ∷ β) u →
      BoundedRun g l (sign t ∷ γ) us γ' ρ rs → BoundedRun g l γ (t ∷ us) γ' ρ rs
  reduce_bounded : {γ γ' : List Sym} {us ρ rs : List ℕ} (r : ℕ) (a : List Sym) → Bounded l γ → Valid g γ r [] (lookahead (us ++ ρ)) →
      γ ≡ onto (rule g r).right a → BoundedRun g l (name (rule g r).left ∷ a) us γ' ρ rs → BoundedRun g l γ us γ' ρ (r ∷ rs)

abbrev pub configuration : ℕ → List Sym → List ℕ → ℕ
configuration l γ ρ = stack_code γ + 65 ^ l * length ρ

unfoldable pub visited : {g : Grammar} {l : ℕ} {γ γ' : List Sym} {us ρ rs : List ℕ} → BoundedRun g l γ us γ' ρ rs → List ℕ
visited {l = l} {γ} {ρ = ρ} (stay_bounded o) = configuration l γ ρ ∷ []
visited {l = l} {γ} {us = us} {ρ} (shift_bounded o v W) = configuration l γ (us ++ ρ) ∷ visited W
visited {l = l} {γ} {us = us} {ρ} (reduce_bounded r a o v d W) = configuration l γ (us ++ ρ) ∷ visited W

pub length_visited : {g : Grammar} {l : ℕ} {γ γ' : List Sym} {us ρ rs : List ℕ} (W : BoundedRun g l γ us γ' ρ rs) → length (visited W) ≡ suc (length us + length rs)
unfolding visited
length_visited (stay_bounded o) = refl
length_visited (shift_bounded o v W) = let h = length_visited W in omega arith
length_visited (reduce_bounded r a o v d W) = let h = length_visited W in omega arith

configuration_below : (l n : ℕ) (γ : List Sym) (ρ : List ℕ) → Bounded l γ → length ρ ≤ n → configuration l γ ρ < 65 ^ l * suc n
configuration_below l n γ ρ o h = pair_below (65 ^ l) (stack_code γ) (length ρ) n (stack_code_below γ l o.small o.short) h

pub visited_below : {g : Grammar} {l : ℕ} {γ γ' : List Sym} {us ρ rs : List ℕ} (n : ℕ) → length (us ++ ρ) ≤ n → (W : BoundedRun g l γ us γ' ρ rs) →
    AllBelow (65 ^ l * suc n) (visited W)
unfolding visited
visited_below {l = l} {γ} {ρ = ρ} n h (stay_bounded o) = (configuration_below l n γ ρ o h, tt)
visited_below {l = l} {γ} {us = us} {ρ} n h (shift_bounded o v W) = (configuration_below l n γ (us ++ ρ) o h, visited_below n (omega arith) W)
visited_below {l = l} {γ} {us = us} {ρ} n h (reduce_bounded r a o v d W) = (configuration_below l n γ (us ++ ρ) o h, visited_below n h W)
