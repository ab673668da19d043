use Rattle.std.proofs.Common.{refl, inl}
use lib.Count.{ones}
use Rattle.words.specs.Iter.{counted}
use Rattle.words.proofs.Fixpoint.{counted_then, up_then}
use Rattle.grammar.proofs.analysis.mark_round.Goals as goal

pub loop-rule-init : goal.loop-rule-init
unfolding counted
loop-rule-init g c = (inl refl, λ f h. refl)

pub loop-rule-preserved : goal.loop-rule-preserved
loop-rule-preserved g c = (
  up_then ones c.args.marks c.loop-rule.after _ c.loop-rule.invariant.0 (c.requires.grows _ _ _ c.loop-rule-test.true c.mark-after.ensures),
  λ f h. counted_then f c.loop-rule.rule _ _ _ (c.loop-rule.invariant.1 f h) (h _ _ _ c.loop-rule-test.true c.mark-after.ensures),
)
