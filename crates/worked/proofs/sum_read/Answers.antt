use Rattle.worked.proofs.Sums.{sum_read_lem}
use Rattle.worked.proofs.sum_read.Goals as goal

pub returns : goal.returns
returns c = sum_read_lem
