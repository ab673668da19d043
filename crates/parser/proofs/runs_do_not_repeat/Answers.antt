use Rattle.parser.proofs.Theorems.{runs_do_not_repeat_lem}
use Rattle.parser.proofs.runs_do_not_repeat.Goals as goal

pub returns : goal.returns
returns c = runs_do_not_repeat_lem
