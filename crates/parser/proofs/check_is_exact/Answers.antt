use Rattle.parser.proofs.DriveTheorems.{check_is_exact_lem}
use Rattle.parser.proofs.check_is_exact.Goals as goal

pub returns : goal.returns
returns c = check_is_exact_lem
