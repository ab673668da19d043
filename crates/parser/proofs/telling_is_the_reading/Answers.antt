use Rattle.parser.proofs.DriveTheorems.{telling_is_the_reading_lem}
use Rattle.parser.proofs.telling_is_the_reading.Goals as goal

pub returns : goal.returns
returns c = telling_is_the_reading_lem
