use Rattle.grammar.proofs.First.{nullable_exact_lem}
use Rattle.grammar.proofs.statements.nullable_exact.Goals as goal

pub returns : goal.returns
returns c = nullable_exact_lem
