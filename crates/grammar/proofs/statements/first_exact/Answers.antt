use Rattle.grammar.proofs.First.{first_exact_lem}
use Rattle.grammar.proofs.statements.first_exact.Goals as goal

pub returns : goal.returns
returns c = first_exact_lem
