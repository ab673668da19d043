use Rattle.parser.proofs.Theorems.{wrong_place_is_first_lem}
use Rattle.parser.proofs.wrong_place_is_first.Goals as goal

pub returns : goal.returns
returns c = wrong_place_is_first_lem
