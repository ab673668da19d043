use Rattle.std.proofs.Common.{Ok, sym, ap, ◌∙◌, arith}
use Rattle.parser.specs.Told.{config_of, advanced_by}
use Rattle.parser.proofs.AdvanceLoop.{advances_none, advances_all, advances_shifted, advances_reduced, advances_off}
use Rattle.parser.proofs.advance.next_rule.Goals as goal

pub turn-init : goal.turn-init
turn-init c g s = sym (advances_none g c.args.text.now (config_of c.args.stack.now c.args.state.now))

pub turn-preserved : goal.turn-preserved
turn-preserved c g s =
    c.turn.invariant g s
    ∙ advances_shifted g c.args.text.now c.turn.moves _ _ _ (omega arith) (c.move_once.ensures g s) (c.in-Ok-Shifted.is ∙ ap Ok c.in-Ok-Shifted.field-0-is)

pub returns-in-Ok-Reduced : goal.returns-in-Ok-Reduced
unfolding advanced_by
returns-in-Ok-Reduced c g s =
    c.turn.invariant g s
    ∙ advances_reduced g c.args.text.now c.turn.moves _ _ _ (omega arith) (c.move_once.ensures g s) _ (c.in-Ok-Reduced.is ∙ ap Ok c.in-Ok-Reduced.field-0-is)

pub returns-in-Err : goal.returns-in-Err
unfolding advanced_by
returns-in-Err c g s =
    c.turn.invariant g s
    ∙ advances_off g c.args.text.now c.turn.moves _ _ _ (omega arith) (c.move_once.ensures g s) _ c.in-Err.is

pub returns : goal.returns
unfolding advanced_by
returns c g s =
    c.turn.invariant g s ∙ advances_all g c.args.text.now c.turn.moves (config_of c.turn.stack c.turn.state) (omega arith)
