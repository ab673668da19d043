use Rattle.parser.proofs.Theorems.{runs_are_readings_lem}
use Rattle.parser.proofs.runs_are_readings.Goals as goal

pub returns : goal.returns
returns c = runs_are_readings_lem
