use Rattle.std.proofs.Common.{◌≡◌, ℕ}
use lib.Count.{ones}
use Rattle.words.specs.Iter.{counted, Up}
use Rattle.grammar.specs.Marking.{MarkIs}
use Rattle.grammar.proofs.analysis.mark_round.Given as goal

abbrev pub invariant-loop-rule : goal.invariant-loop-rule
invariant-loop-rule g l =
    Up ones l.marks l.after × ((f : ℕ → ℕ → ℕ) → MarkIs g.F.Fn l.mark l.rules f → l.after ≡ counted l.rule f l.marks)
