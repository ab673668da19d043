use Rattle.worked.proofs.Refused.{other_useless_lem}
use Rattle.worked.proofs.other_useless.Goals as goal

pub returns : goal.returns
returns c = other_useless_lem
