use Rattle.std.proofs.Common.{length}
use Rattle.grammar.proofs.Filling.{Sofar}
use Rattle.grammar.proofs.table.read.Given as goal

abbrev pub invariant-rule : goal.invariant-rule
invariant-rule l = Sofar l.bytes l.rest l.table

abbrev pub decreases-rule : goal.decreases-rule
decreases-rule l = length l.rest
