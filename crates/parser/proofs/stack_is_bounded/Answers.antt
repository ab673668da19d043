use Rattle.parser.proofs.Theorems.{stack_is_bounded_lem}
use Rattle.parser.proofs.stack_is_bounded.Goals as goal

pub returns : goal.returns
returns c = stack_is_bounded_lem
