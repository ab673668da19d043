use Rattle.parser.proofs.Theorems.{texts_are_read_lem}
use Rattle.parser.proofs.texts_are_read.Goals as goal

pub returns : goal.returns
returns c = texts_are_read_lem
