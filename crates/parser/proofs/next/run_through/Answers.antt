use Rattle.std.proofs.Common.{length, Err, sym, ap, ◌∙◌, ap₂}
use Rattle.words.specs.Bits.{has_bit}
use Rattle.items.specs.Actions.{acts_at}
use Rattle.parser.specs.Drive.{followed_by, following, next_of, run_to}
use Rattle.parser.specs.Told.{config_of, followed, halted}
use Rattle.parser.proofs.Rows.{passing_same}
use Rattle.parser.proofs.next.run_through.Goals as goal

pub returns-in-Ok : goal.returns-in-Ok
unfolding followed following halted next_of
returns-in-Ok c g s =
    ap followed_by (passing_same (λ t. has_bit t c.expected.result) (acts_at g c.run.new.state.items.words) (c.expected.ensures g s.shows) 25 0)
    ∙ ap (λ h. following g (halted h (config_of c.run.new.stack c.run.new.state))) (sym c.in-Ok.is)
    ∙ ap (following g) (c.run.ensures g s ∙ ap₂ (λ k x. run_to k (length c.args.text.now) g c.args.text.now x) c.begin-state.ensures.moves (c.begin-state.ensures.stack g s))

pub returns-in-Err-Stuck : goal.returns-in-Err-Stuck
unfolding followed following halted next_of
returns-in-Err-Stuck c g s =
    ap (λ h. following g (halted h (config_of c.run.new.stack c.run.new.state))) (sym (c.in-Err-Stuck.is ∙ ap Err c.in-Err-Stuck.field-0-is))
    ∙ ap (following g) (c.run.ensures g s ∙ ap₂ (λ k x. run_to k (length c.args.text.now) g c.args.text.now x) c.begin-state.ensures.moves (c.begin-state.ensures.stack g s))

pub returns-in-Err-Full : goal.returns-in-Err-Full
unfolding followed following halted next_of
returns-in-Err-Full c g s =
    ap (λ h. following g (halted h (config_of c.run.new.stack c.run.new.state))) (sym (c.in-Err-Full.is ∙ ap Err c.in-Err-Full.field-0-is))
    ∙ ap (following g) (c.run.ensures g s ∙ ap₂ (λ k x. run_to k (length c.args.text.now) g c.args.text.now x) c.begin-state.ensures.moves (c.begin-state.ensures.stack g s))
