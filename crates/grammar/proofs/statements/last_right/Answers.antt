use Rattle.grammar.proofs.Derivations.{last_right_lem}
use Rattle.grammar.proofs.statements.last_right.Goals as goal

pub returns : goal.returns
returns c = last_right_lem
