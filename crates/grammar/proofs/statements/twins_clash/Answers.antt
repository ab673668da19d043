use Rattle.grammar.proofs.Continuing.{twins_clash_lem}
use Rattle.grammar.proofs.statements.twins_clash.Goals as goal

pub returns : goal.returns
returns c = twins_clash_lem
