use Rattle.tables.proofs.Kernels.{alike_goes_on_lem}
use Rattle.tables.proofs.alike_goes_on.Goals as goal

pub returns : goal.returns
returns c = alike_goes_on_lem
