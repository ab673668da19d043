use Rattle.std.proofs.Common.{◌*◌, ◌<◌, length, sym, arith, rules}
use mathlib.Core.Bool.{false≢true}
use mir.Facts.{Fits-of_lt}
use Rattle.std.proofs.lemmas.Bool.{ltb-true, ltb-false}
use Rattle.parser.specs.Told.{config_of, moved_by}
use Rattle.parser.proofs.Steps.{shift_done, shift_full}
use Rattle.parser.proofs.ToldMoves.{room_counts, handed_on, told_full}
use Rattle.parser.proofs.config.shift.Goals as goal

pub returns-in_err-push : goal.returns-in_err-push
returns-in_err-push c g s k =
    let here = config_of c.args.stack.now c.args.state.now in
    told_full c.args.stack.now _ c.args.state.now _ _ _ _ (handed_on _ _ c.from_residual.ensures.1) c.in_err-push.ensures.room c.push.ensures.value
    (shift_full g here c.args.sign (ltb-false _ _ (sym c.in_err-push.ensures.room)))

pub overflow_add-state : goal.overflow_add-state
overflow_add-state c =
    let most : length c.args.stack.now * 8 < 9223372036854775808 = search rules in
    Fits-of_lt (room_counts c.args.stack.now c.args.state.now.height c.in_ok-push.ensures.room most)

pub returns : goal.returns
unfolding moved_by
returns c g s k = record {
  is = shift_done g (config_of c.args.stack.now c.args.state.now) c.args.sign _ _ _ _
      (ltb-true _ _ (sym c.in_ok-push.ensures.room)) c.push.ensures.value (omega arith)
      (omega (arith, c.saturating_add-state.ensures)) (c.goto-state.ensures.value g s);
  kept = λ e. absurd (false≢true e);
}
