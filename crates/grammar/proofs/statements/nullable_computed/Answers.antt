use Rattle.grammar.proofs.Nullable.{nullable_computed_lem}
use Rattle.grammar.proofs.statements.nullable_computed.Goals as goal

pub returns : goal.returns
returns c = nullable_computed_lem
