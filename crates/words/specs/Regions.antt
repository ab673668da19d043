-- Regions of one memory: n words from a on, read, replaced, changed. Assumes nothing: these are definitions.
use Rattle.std.specs.Prelude.{ℕ, List, ◌++◌, take, drop}

abbrev pub region : ℕ → ℕ → List ℕ → List ℕ
region a n m = take n (drop a m)

-- the memory with other words in a region
abbrev pub replaced : ℕ → ℕ → List ℕ → List ℕ → List ℕ
replaced a n ys m = take a m ++ (ys ++ drop n (drop a m))

-- the memory with one region changed by f
abbrev pub within : ℕ → ℕ → (List ℕ → List ℕ) → List ℕ → List ℕ
within a n f m = replaced a n (f (region a n m)) m
