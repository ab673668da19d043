use Rattle.worked.proofs.Sums.{sums_reduced_lem}
use Rattle.worked.proofs.sums_reduced.Goals as goal

pub returns : goal.returns
returns c = sums_reduced_lem
