use Rattle.std.proofs.Common.{sym, ap, ◌∙◌}
use Rattle.parser.specs.Told.{config_of, halted}
use Rattle.parser.proofs.RunLoop.{run_out, run_arrived, run_on, run_off}
use Rattle.parser.proofs.ToldMoves.{handed_on}
use Rattle.parser.proofs.run.run.Goals as goal

pub returns-then-state-last : goal.returns-then-state-last
unfolding halted
returns-then-state-last c g s =
    sym (run_arrived c.args.last g c.args.text.now _ _ _ (c.tick.ensures.less c.turn-test.true) c.if-state-last.true) ∙ c.turn.invariant g s

pub turn-preserved : goal.turn-preserved
turn-preserved c g s =
    sym (run_on c.args.last g c.args.text.now _ _ _ (c.tick.ensures.less c.turn-test.true) _ _ c.if-state-last.false (c.move_once.ensures g s) _ c.in_ok-move_once.was)
    ∙ c.turn.invariant g s

pub returns-in_err-move_once : goal.returns-in_err-move_once
returns-in_err-move_once c g s =
    ap (λ r. halted r (config_of c.move_once.new.stack c.move_once.new.state)) (handed_on _ _ c.from_residual.ensures.1)
    ∙ sym (run_off c.args.last g c.args.text.now _ _ _ (c.tick.ensures.less c.turn-test.true) _ _ c.if-state-last.false (c.move_once.ensures g s) _ c.in_err-move_once.was)
    ∙ c.turn.invariant g s

pub returns : goal.returns
unfolding halted
returns c g s = sym (run_out c.args.last g c.args.text.now _ _ (c.tick.ensures.done c.turn-test.false).0) ∙ c.turn.invariant g s
