use Rattle.worked.proofs.Refused.{ifs_clash_lem}
use Rattle.worked.proofs.ifs_clash.Goals as goal

pub returns : goal.returns
returns c = ifs_clash_lem
