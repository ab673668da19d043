-- Rows of words: a mask put into one place, and how many bits are set. Assumes nothing: these are definitions.
use Rattle.std.specs.Prelude.{◌≡◌, ℕ, ◌^◌, ◌<◌, List, length, sum_by, bit_or, count_ones, slice_index, slice_set}

-- the row s with the mask m put into its place q; past the end nothing happens
abbrev pub or_at : List ℕ → ℕ → ℕ → List ℕ
or_at s q m = slice_set s q (bit_or (slice_index s q) m)

-- how many bits a row has set
abbrev pub size : List ℕ → ℕ
size s = sum_by count_ones s

-- n words of 64 bits
abbrev pub Words : ℕ → List ℕ → Type 0
Words n s = (length s ≡ n) × ((i : ℕ) → slice_index s i < 2 ^ 64)
