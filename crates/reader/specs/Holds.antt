-- What the memory holds between commands: the grammar that is loaded, which was taken. Assumes nothing: these are definitions.
use Rattle.std.specs.Prelude.{◌≡◌, ℕ, true, List, [], ◌∷◌, length}
use Rattle.grammar.specs.Grammar.{Grammar, a_grammar, AllUseful, Enough}
use Rattle.reader.specs.House.{Loaded}
use Rattle.reader.specs.Memory.{Layout, loaded}

-- a grammar that was taken: it fits, its names are all of use, and one look ahead is enough
pub record Taken (g : Grammar) : Type 0 where
  pub fits : a_grammar g ≡ true
  pub useful : AllUseful g
  pub enough : Enough g

pub data AllTaken : Loaded → Type 0 where
  nothing_loaded : AllTaken []
  one_loaded : {g : Grammar} → Taken g → AllTaken (g ∷ [])

pub record Holds (l : Layout) (m : List ℕ) (old : Loaded) : Type 0 where
  pub long : length m ≡ l.words
  pub holds : loaded m ≡ old
  pub taken : AllTaken old
