use Rattle.worked.proofs.Refused.{sums_clash_lem}
use Rattle.worked.proofs.sums_clash.Goals as goal

pub returns : goal.returns
returns c = sums_clash_lem
