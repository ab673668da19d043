-- FIRST of a row and then a lookahead. Assumes nothing: these are definitions.
use Rattle.std.specs.Prelude.{◌≡◌, ℕ, ◌⊎◌, List}
use Rattle.grammar.specs.Grammar.{Sym, Grammar}
use Rattle.grammar.specs.First.{Vanishes, Opens}

-- u is in FIRST of β and then t: a sign that β opens with, or t if β is nullable
abbrev pub InFirst : Grammar → List Sym → ℕ → ℕ → Type 0
InFirst g β t u = Opens g β u ⊎ (Vanishes g β × (u ≡ t))
