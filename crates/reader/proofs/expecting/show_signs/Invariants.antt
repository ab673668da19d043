use Rattle.reader.proofs.NextTold.{SoFar}
use Rattle.reader.proofs.expecting.show_signs.Given as goal

abbrev pub invariant-sign : goal.invariant-sign
invariant-sign l = SoFar l.mask l.initial.out l.sign l.many l.out
