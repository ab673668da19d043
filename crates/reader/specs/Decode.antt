-- Which command a row of bytes spells: the one that it could be, and whether it is that one. Assumes nothing: these are definitions.
use Rattle.std.specs.Prelude.{ℕ, Bool, false, List, [], ◌∷◌, ◌==◌}
use Rattle.grammar.specs.Grammar.{pick}
use Rattle.grammar.specs.Spelling.{grammar_ok, grammar_of}
use Rattle.reader.specs.House.{Command, load, read_text, what_next, a_text}

unfoldable pub spells : List ℕ → Bool
spells [] = false
spells (k ∷ bs) = pick (k == 1) (grammar_ok bs) (pick (k == 2) (a_text bs) (pick (k == 3) (a_text bs) false))

unfoldable pub could_be : List ℕ → Command
could_be [] = read_text []
could_be (k ∷ bs) = pick (k == 1) (load (grammar_of bs)) (pick (k == 2) (read_text bs) (what_next bs))

-- the command, or none
unfoldable pub decode : List ℕ → List Command
decode t = pick (spells t) (could_be t ∷ []) []
