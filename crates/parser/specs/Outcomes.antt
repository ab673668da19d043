-- What a run that is stuck says of its text. Assumes nothing: these are definitions.
use Rattle.std.specs.Prelude.{◌≡◌, ℕ, List, length}
use Rattle.grammar.specs.Grammar.{Grammar, Makes, backwards}
use Rattle.grammar.specs.Texts.{Begins, NotBegins, NotMade, FirstWrong, Follows}

-- when it shifted us and reduced rs: all of ts is shifted, and made by what was reduced; or ts is first wrong there
pub data Outcome (g : Grammar) (ts us rs : List ℕ) : Type 0 where
  accepts : us ≡ ts → Makes g (backwards rs) ts → Outcome g ts us rs
  refuses : NotMade g ts → FirstWrong g ts (length us) → Outcome g ts us rs

-- what may come next after ts, or where ts is wrong before its end
pub data Continues (g : Grammar) (ts : List ℕ) : Type 0 where
  goes_on_by : Begins g ts → (ks : List ℕ) → Follows g ts ks → Continues g ts
  wrong_before_end : (p : ℕ) → NotBegins g ts → FirstWrong g ts p → Continues g ts
