-- A number held in words of 64 bits, the lowest first, counted down. Assumes nothing: these are definitions.
use Rattle.std.specs.Prelude.{◌≡◌, ℕ, ◌+◌, ◌*◌, ◌<◌, Bool, true, false, Option, List, [], ◌∷◌, length}
use Rattle.std.specs.List.{AllWithin, HoldsAt}
use Rattle.std.specs.Option.{MatchOption}

-- the factor is 2 ^ 64
unfoldable pub value : List ℕ → ℕ
value [] = 0
value (x ∷ xs) = x + 18446744073709551616 * value xs

-- one less, or none left
pub record Ticked (before after : List ℕ) (r : Bool) : Type 0 where
  pub less : r ≡ true → value after + 1 ≡ value before
  pub done : r ≡ false → (value before ≡ 0) × (after ≡ before)

-- the place of the lowest word that is not 0, if there is one
abbrev pub IsLowest : List ℕ → Option ℕ → Type 0
IsLowest fuel r = MatchOption r (AllWithin (λ w. w ≡ 0) fuel 0 (length fuel)) (λ i. (i < length fuel) × HoldsAt (λ w. 0 < w) fuel i × AllWithin (λ w. w ≡ 0) fuel 0 i)
