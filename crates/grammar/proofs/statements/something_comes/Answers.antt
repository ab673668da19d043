use Rattle.grammar.proofs.Beginnings.{something_comes_lem}
use Rattle.grammar.proofs.statements.something_comes.Goals as goal

pub returns : goal.returns
returns c = something_comes_lem
