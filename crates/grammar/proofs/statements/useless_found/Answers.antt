use Rattle.grammar.proofs.Useless.{useless_found_lem}
use Rattle.grammar.proofs.statements.useless_found.Goals as goal

pub returns : goal.returns
returns c = useless_found_lem
