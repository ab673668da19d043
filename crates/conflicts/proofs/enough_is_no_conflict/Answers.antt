use Rattle.conflicts.proofs.Enough.{enough_is_no_conflict_lem}
use Rattle.conflicts.proofs.enough_is_no_conflict.Goals as goal

pub returns : goal.returns
returns c = enough_is_no_conflict_lem
