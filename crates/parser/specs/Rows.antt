-- The numbers of a stretch that pass a test, as a row. Assumes nothing: these are definitions.
use Rattle.std.specs.Prelude.{ℕ, zero, suc, Bool, List, [], ◌∷◌}
use Rattle.grammar.specs.Grammar.{pick}

-- from i on, k of them
unfoldable pub passing : (ℕ → Bool) → ℕ → ℕ → List ℕ
passing f zero i = []
passing f (suc k) i = pick (f i) (i ∷ passing f k (suc i)) (passing f k (suc i))
