use Rattle.std.proofs.Common.{◌*◌, ◌<◌, length, sym, arith, rules}
use mathlib.Core.Bool.{false≢true}
use mir.Facts.{Fits-of_lt}
use Rattle.std.proofs.lemmas.Bool.{ltb-true, ltb-false}
use Rattle.parser.specs.Told.{config_of, moved_by}
use Rattle.parser.proofs.Steps.{reduce_done, reduce_full}
use Rattle.parser.proofs.ToldMoves.{room_counts, handed_on, told_full}
use Rattle.parser.proofs.config.reduce.Goals as goal

pub returns-in_err-push : goal.returns-in_err-push
returns-in_err-push c g s k =
    told_full c.args.stack.now _ c.args.state.now _ _ _ _ (handed_on _ _ c.from_residual.ensures.1) c.in_err-push.ensures.room c.push.ensures.value
    (reduce_full g (config_of c.args.stack.now c.args.state.now) c.args.rule _ _ _ (c.symbols_of-count.ensures g s.shows k)
    c.saturating_sub-base.ensures (c.name_of-name.ensures g s.shows k) (ltb-false _ _ (sym c.in_err-push.ensures.room)))

pub overflow_add-state : goal.overflow_add-state
overflow_add-state c =
    let most : length c.args.stack.now * 8 < 9223372036854775808 = search rules in
    Fits-of_lt (room_counts c.args.stack.now c.saturating_sub-base.result c.in_ok-push.ensures.room most)

pub overflow_add-base : goal.overflow_add-base
overflow_add-base c =
    let most : length c.args.stack.now * 8 < 9223372036854775808 = search rules in
    Fits-of_lt (room_counts c.args.stack.now c.saturating_sub-base.result c.in_ok-push.ensures.room most)

pub returns : goal.returns
unfolding moved_by
returns c g s k = record {
  is = reduce_done g (config_of c.args.stack.now c.args.state.now) c.args.rule _ _ _ (c.symbols_of-count.ensures g s.shows k)
      c.saturating_sub-base.ensures (c.name_of-name.ensures g s.shows k) _ _ _ (ltb-true _ _ (sym c.in_ok-push.ensures.room))
      c.push.ensures.value (omega arith) (c.items_after-state.ensures g s);
  kept = λ e. absurd (false≢true e);
}
