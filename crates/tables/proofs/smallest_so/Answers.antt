use Rattle.tables.proofs.Smallest.{smallest_so_lem}
use Rattle.tables.proofs.smallest_so.Goals as goal

pub returns : goal.returns
returns c = smallest_so_lem
