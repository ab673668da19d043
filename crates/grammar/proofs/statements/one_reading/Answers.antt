use Rattle.grammar.proofs.Reading.{one_reading_lem}
use Rattle.grammar.proofs.statements.one_reading.Goals as goal

pub returns : goal.returns
returns c = one_reading_lem
