use Rattle.std.proofs.Common.{◌≡◌}
use Rattle.grammar.specs.Grammar.{Grammar}
use Rattle.grammar.specs.Prepared.{Describes}
use Rattle.parser.specs.Drive.{advance_of}
use Rattle.parser.specs.Told.{config_of}
use Rattle.parser.proofs.AdvanceLoop.{advances}
use Rattle.parser.proofs.advance.next_rule.Given as goal

abbrev pub invariant-turn : goal.invariant-turn
invariant-turn l =
    (g : Grammar) → Describes l.grammar g →
    advance_of g l.text (config_of l.initial.stack l.initial.state) ≡ advances g l.text l.moves (config_of l.stack l.state)
