use Rattle.parser.proofs.Theorems.{runs_are_one_way_lem}
use Rattle.parser.proofs.runs_are_one_way.Goals as goal

pub returns : goal.returns
returns c = runs_are_one_way_lem
