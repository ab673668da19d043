use Rattle.std.proofs.Common.{Err, sym, ap, ◌∙◌}
use Rattle.parser.specs.Told.{config_of, ended, halted}
use Rattle.parser.proofs.CheckRun.{ending_at, ending_here}
use Rattle.parser.proofs.check.read_through.Goals as goal

pub returns-in-Err-Stuck : goal.returns-in-Err-Stuck
unfolding halted ending_at
returns-in-Err-Stuck c g s =
    c.end_at.ensures
    ∙ ap (λ h. ending_at c.args.text.now (halted h (config_of c.run.new.stack c.run.new.state))) (sym (c.in-Err-Stuck.is ∙ ap Err c.in-Err-Stuck.field-0-is))
    ∙ ending_here g c.args.text.now _ _ (c.run.ensures g s) c.begin-state.ensures.moves (c.begin-state.ensures.stack g s)

pub returns-in-Ok : goal.returns-in-Ok
unfolding halted ending_at ended
returns-in-Ok c g s =
    ap (λ h. ending_at c.args.text.now (halted h (config_of c.run.new.stack c.run.new.state))) (sym c.in-Ok.is)
    ∙ ending_here g c.args.text.now _ _ (c.run.ensures g s) c.begin-state.ensures.moves (c.begin-state.ensures.stack g s)

pub returns-in-Err-Full : goal.returns-in-Err-Full
unfolding halted ending_at ended
returns-in-Err-Full c g s =
    ap (λ h. ending_at c.args.text.now (halted h (config_of c.run.new.stack c.run.new.state))) (sym (c.in-Err-Full.is ∙ ap Err c.in-Err-Full.field-0-is))
    ∙ ending_here g c.args.text.now _ _ (c.run.ensures g s) c.begin-state.ensures.moves (c.begin-state.ensures.stack g s)
