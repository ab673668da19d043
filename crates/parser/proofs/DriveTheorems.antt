-- The statements on the parser that is driven by item sets, proved.
use Rattle.std.proofs.Common.{◌≡◌, ℕ, ◌≤◌, true, ltb, List, length, sym, refl, subst, arith}
use Rattle.grammar.specs.Grammar.{every, Grammar, a_grammar, AllUseful, Enough}
use Rattle.grammar.proofs.Lists.{never}
use Rattle.grammar.proofs.Sizes.{sizes}
use Rattle.conflicts.proofs.Enough.{no_conflict}
use Rattle.parser.specs.Drive.{Ending, check_of, Following, next_of}
use Rattle.parser.specs.DriveStatements.{Checked, GoesOn, most_symbols, most_moves, CheckIsExact, NextIsExact, TellingIsTheReading}
use Rattle.parser.proofs.Runs.{accepts_made}
use Rattle.parser.proofs.Checking.{check_checked}
use Rattle.parser.proofs.Following.{next_goes_on}
use Rattle.parser.proofs.Telling.{tells_reading}
use Rattle.parser.proofs.FirstRule.{ends_with_first}

pub check_is_exact_lem : CheckIsExact
unfolding CheckIsExact
check_is_exact_lem g a u h n ts short signs room moves hr hm =
    check_checked g a u (no_conflict g (sizes g a) u h) ts signs n short room moves hr hm

pub next_is_exact_lem : NextIsExact
unfolding NextIsExact
next_is_exact_lem g a u h n ts short signs room moves hr hm = next_goes_on g a u (no_conflict g (sizes g a) u h) ts n short room moves hr hm

pub telling_is_the_reading_lem : TellingIsTheReading
unfolding TellingIsTheReading
telling_is_the_reading_lem g a u h n ds ts short m room hr =
    let enough : most_symbols (length ts) ≤ room = omega arith in (
      tells_reading g a u (no_conflict g (sizes g a) u h) ts ds m room enough,
      ends_with_first g (sizes g a) (λ e. never (cc)) refl (accepts_made g (sizes g a) ds ts m),
    )

-- what ends as a silent run does is exact
pub checked_so : (g : Grammar) (ts : List ℕ) (room moves : ℕ) (e : Ending) → a_grammar g ≡ true → AllUseful g → Enough g → every (λ t. ltb t 24) ts ≡ true →
    most_symbols (length ts) ≤ room → most_moves (length ts) ≤ moves → e ≡ check_of g ts room moves → Checked g ts e
unfolding CheckIsExact
checked_so g ts room moves e fits u h f r m k =
    subst (λ (x : Ending). Checked g ts x) (sym k) (check_is_exact_lem g fits u h (length ts) ts (omega arith) f room moves r m)

-- and so is what is told of how a text goes on
pub goes_on_so : (g : Grammar) (ts : List ℕ) (room moves : ℕ) (e : Following) → a_grammar g ≡ true → AllUseful g → Enough g → every (λ t. ltb t 24) ts ≡ true →
    most_symbols (length ts) ≤ room → most_moves (length ts) ≤ moves → e ≡ next_of g ts room moves → GoesOn g ts e
unfolding NextIsExact
goes_on_so g ts room moves e fits u h f r m k =
    subst (λ (x : Following). GoesOn g ts x) (sym k) (next_is_exact_lem g fits u h (length ts) ts (omega arith) f room moves r m)
