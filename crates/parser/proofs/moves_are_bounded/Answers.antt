use Rattle.parser.proofs.Theorems.{moves_are_bounded_lem}
use Rattle.parser.proofs.moves_are_bounded.Goals as goal

pub returns : goal.returns
returns c = moves_are_bounded_lem
