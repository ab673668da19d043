use Rattle.std.proofs.Common.{◌≡◌}
use Rattle.words.specs.Countdown.{value}
use Rattle.grammar.specs.Grammar.{Grammar}
use Rattle.grammar.specs.Prepared.{Describes}
use Rattle.parser.specs.Drive.{run_to}
use Rattle.parser.specs.Told.{config_of}
use Rattle.parser.proofs.run.run.Given as goal

abbrev pub invariant-turn : goal.invariant-turn
invariant-turn l =
    (g : Grammar) → Describes l.grammar g →
    run_to (value l.moves) l.last g l.text (config_of l.stack l.state)
    ≡ run_to (value l.initial.moves) l.last g l.text (config_of l.initial.stack l.initial.state)

abbrev pub decreases-turn : goal.decreases-turn
decreases-turn l = value l.moves
