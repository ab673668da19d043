-- A step done n times, a step for each number below n, and what a run of growing steps has come to. Assumes nothing: these are definitions.
use Rattle.std.specs.Prelude.{◌≡◌, ℕ, zero, suc, ◌+◌, ◌<◌, ◌≤◌, Bool, true, false, ◌⊎◌}

unfoldable pub iter : {X : Type 0} → ℕ → (X → X) → X → X
iter zero f x = x
iter (suc n) f x = iter n f (f x)

-- f at 0, then at 1, .. then at n - 1
unfoldable pub counted : {X : Type 0} → ℕ → (ℕ → X → X) → X → X
counted zero f x = x
counted (suc n) f x = f n (counted n f x)

-- y is x, or larger
abbrev pub Up : {X : Type 0} → (X → ℕ) → X → X → Type 0
Up size x y = (y ≡ x) ⊎ (size x < size y)

-- y comes from x: larger where r says so, and else the same
pub record Grew {X : Type 0} (size : X → ℕ) (x y : X) (r : Bool) : Type 0 where
  pub more : r ≡ true → size x < size y
  pub same : r ≡ false → y ≡ x

-- `now` comes from `start` by rounds that each made it larger
pub record Reached {X : Type 0} (round : X → X) (size : X → ℕ) (start now : X) : Type 0 where
  pub rounds : ℕ
  pub is : now ≡ iter rounds round start
  pub paid : rounds + size start ≤ size now
