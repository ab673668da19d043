use Rattle.std.proofs.Common.{refl}
use Rattle.words.specs.Iter.{counted}
use Rattle.words.specs.Rows.{size}
use Rattle.words.proofs.Fixpoint.{counted_then, grew_none, grew_then}
use Rattle.words.proofs.rounds.each_in.Goals as goal

pub loop-i-init : goal.loop-i-init
unfolding counted
loop-i-init g c = (grew_none size _, λ f h. refl)

pub loop-i-preserved : goal.loop-i-preserved
loop-i-preserved g c = (
  grew_then c.loop-i.invariant.0 (c.requires.grows _ _ _ _ c.loop-i-test.true c.step-changed.ensures),
  λ f h. counted_then f c.loop-i.i _ _ _ (c.loop-i.invariant.1 f h) (h _ _ _ _ c.loop-i-test.true c.step-changed.ensures),
)
