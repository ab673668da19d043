use Rattle.tables.proofs.Kernels.{first_is_alone_lem}
use Rattle.tables.proofs.first_is_alone.Goals as goal

pub returns : goal.returns
returns c = first_is_alone_lem
