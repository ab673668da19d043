use Rattle.std.proofs.Common.{◌≡◌, ◌-◌, length}
use Rattle.reader.proofs.RunningTurns.{Sofar}
use Rattle.reader.proofs.run.run.Given as goal

abbrev pub invariant-turn : goal.invariant-turn
invariant-turn l = (length l.out ≡ 32) × Sofar l.initial.memory l.text l.memory l.shown l.kind l.used

abbrev pub decreases-turn : goal.decreases-turn
decreases-turn l = length l.shown - l.used
