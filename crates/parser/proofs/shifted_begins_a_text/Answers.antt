use Rattle.parser.proofs.Theorems.{shifted_begins_a_text_lem}
use Rattle.parser.proofs.shifted_begins_a_text.Goals as goal

pub returns : goal.returns
returns c = shifted_begins_a_text_lem
