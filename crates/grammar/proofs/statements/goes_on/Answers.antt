use Rattle.grammar.proofs.Continuing.{goes_on}
use Rattle.grammar.proofs.statements.goes_on.Goals as goal

pub returns : goal.returns
returns c = goes_on
