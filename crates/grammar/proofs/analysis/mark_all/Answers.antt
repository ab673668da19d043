use Rattle.std.proofs.Common.{◌^◌, ◌<◌, sym, refl, ◌∙◌, rules}
use lib.Count.{ones, ones-le}
use Rattle.words.specs.Iter.{counted}
use Rattle.words.proofs.Fixpoint.{reached_none, reached_more, reached_rest, up_changed}
use Rattle.grammar.proofs.analysis.mark_all.Goals as goal

pub round-init : goal.round-init
round-init g c f h = reached_none (counted c.args.rules f) ones c.args.start

pub returns-then-next-marks : goal.returns-then-next-marks
returns-then-next-marks g c f h =
    reached_rest (c.round.invariant f h) (sym (c.mark_round-next.ensures.value f h) ∙ c.if-next-marks.true) 64
    (ones-le 64 c.round.marks (let t : c.round.marks < 2 ^ 64 = search rules in t))

pub round-preserved : goal.round-preserved
round-preserved g c f h =
    reached_more (c.round.invariant f h) c.mark_round-next.result (c.mark_round-next.ensures.value f h)
    (up_changed ones c.round.marks _ _ c.mark_round-next.ensures.grew refl c.if-next-marks.false)
