use Rattle.std.proofs.Common.{rules, refl}
use Rattle.words.specs.Packed.{stacked}
use Rattle.words.proofs.packed.top.Goals as goal

pub returns-then-height-eq0 : goal.returns-then-height-eq0
unfolding stacked
returns-then-height-eq0 c = rw c.if-height-eq0.true refl

pub returns : goal.returns
unfolding stacked
returns c = search rules
