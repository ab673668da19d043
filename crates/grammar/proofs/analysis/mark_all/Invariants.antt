use Rattle.std.proofs.Common.{ℕ, ◌-◌}
use lib.Count.{ones}
use Rattle.words.specs.Iter.{counted, Reached}
use Rattle.grammar.specs.Marking.{MarkIs}
use Rattle.grammar.proofs.analysis.mark_all.Given as goal

abbrev pub invariant-round : goal.invariant-round
invariant-round g l = (f : ℕ → ℕ → ℕ) → MarkIs g.F.Fn l.mark l.rules f → Reached (counted l.rules f) ones l.start l.marks

abbrev pub decreases-round : goal.decreases-round
decreases-round g l = 64 - ones l.marks
