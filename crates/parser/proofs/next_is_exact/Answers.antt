use Rattle.parser.proofs.DriveTheorems.{next_is_exact_lem}
use Rattle.parser.proofs.next_is_exact.Goals as goal

pub returns : goal.returns
returns c = next_is_exact_lem
