use Rattle.std.proofs.Common.{◌≡◌, ℕ, List}
use Rattle.words.specs.Iter.{Grew, counted}
use Rattle.words.specs.Rounds.{StepIs}
use Rattle.words.specs.Rows.{size}
use Rattle.words.proofs.rounds.each_in.Given as goal

abbrev pub invariant-loop-i : goal.invariant-loop-i
invariant-loop-i g l =
    Grew size l.initial.row l.row l.changed
    × ((f : ℕ → List ℕ → List ℕ) → StepIs g.F.Fn l.fn.step l.fn.count f → l.row ≡ counted l.i f l.initial.row)
