use Rattle.std.proofs.Common.{ℕ, ◌*◌, ◌-◌, List, length}
use Rattle.words.specs.Iter.{Reached}
use Rattle.words.specs.Rounds.{RoundIs}
use Rattle.words.specs.Rows.{size}
use Rattle.words.proofs.rounds.until_still.Given as goal

abbrev pub invariant-round : goal.invariant-round
invariant-round g l = (f : List ℕ → List ℕ) → RoundIs g.F.Fn l.fn.round f → Reached f size l.initial.row l.row

abbrev pub decreases-round : goal.decreases-round
decreases-round g l = 64 * length l.initial.row - size l.row
