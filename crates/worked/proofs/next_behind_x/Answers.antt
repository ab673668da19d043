use Rattle.worked.proofs.Sums.{next_behind_x_lem}
use Rattle.worked.proofs.next_behind_x.Goals as goal

pub returns : goal.returns
returns c = next_behind_x_lem
