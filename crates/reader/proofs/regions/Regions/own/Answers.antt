use Rattle.std.proofs.Common.{refl}
use Rattle.reader.specs.Entry.{own_layout}
use Rattle.reader.proofs.regions.Regions.own.Goals as goal

pub returns : goal.returns
unfolding own_layout
returns c = refl
