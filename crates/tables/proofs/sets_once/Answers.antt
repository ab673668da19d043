use Rattle.tables.proofs.Counting.{sets_once_lem}
use Rattle.tables.proofs.sets_once.Goals as goal

pub returns : goal.returns
returns c = sets_once_lem
