use Rattle.grammar.proofs.Trees.{trees_exact_lem}
use Rattle.grammar.proofs.statements.trees_exact.Goals as goal

pub returns : goal.returns
returns c = trees_exact_lem
