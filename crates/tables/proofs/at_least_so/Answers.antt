use Rattle.tables.proofs.Counting.{at_least_so_lem}
use Rattle.tables.proofs.at_least_so.Goals as goal

pub returns : goal.returns
returns c = at_least_so_lem
