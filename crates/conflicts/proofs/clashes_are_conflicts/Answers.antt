use Rattle.conflicts.proofs.Enough.{clashes_are_conflicts_lem}
use Rattle.conflicts.proofs.clashes_are_conflicts.Goals as goal

pub returns : goal.returns
returns c = clashes_are_conflicts_lem
