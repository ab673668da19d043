use Rattle.parser.proofs.Theorems.{next_signs_are_known_lem}
use Rattle.parser.proofs.next_signs_are_known.Goals as goal

pub returns : goal.returns
returns c = next_signs_are_known_lem
