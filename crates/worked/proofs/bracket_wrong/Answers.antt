use Rattle.worked.proofs.Sums.{bracket_wrong_lem}
use Rattle.worked.proofs.bracket_wrong.Goals as goal

pub returns : goal.returns
returns c = bracket_wrong_lem
