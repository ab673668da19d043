use Rattle.grammar.proofs.FirstSets.{first_computed_lem}
use Rattle.grammar.proofs.statements.first_computed.Goals as goal

pub returns : goal.returns
returns c = first_computed_lem
