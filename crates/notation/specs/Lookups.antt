-- What a lookup in a table tells, and what is put into one. Assumes nothing: these are definitions.
use Rattle.std.specs.Prelude.{◌≡◌, ℕ, ◌<◌, Bool, true, false, List, [], ◌∷◌, ◌++◌, length, Some, None, Option, ◌≢◌, slice_index_or}

-- a place where x stands among xs, or that it stands nowhere; d is any value at all
abbrev pub Finds : {A : Type 0} → A → List A → A → Option ℕ → Type 0
Finds d xs x (Some i) = (i < length xs) × (slice_index_or xs i d ≡ x)
Finds d xs x None = (k : ℕ) → k < length xs → slice_index_or xs k d ≢ x

-- one more at the end, or nothing
abbrev pub Added : {A : Type 0} → List A → Bool → List A → Type 0
Added {A} xs true ys = (x : A) × (ys ≡ xs ++ x ∷ [])
Added xs false ys = ys ≡ xs
