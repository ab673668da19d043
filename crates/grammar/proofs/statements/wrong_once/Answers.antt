use Rattle.grammar.proofs.Beginnings.{wrong_once_lem}
use Rattle.grammar.proofs.statements.wrong_once.Goals as goal

pub returns : goal.returns
returns c = wrong_once_lem
