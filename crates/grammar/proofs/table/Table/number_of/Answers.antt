use Rattle.std.proofs.Common.{◌+◌, ap}
use Rattle.grammar.proofs.Marks.{marks_number}
use Rattle.grammar.proofs.table.Table.number_of.Goals as goal

pub returns-clause-marks : goal.returns-clause-marks
returns-clause-marks c = λ g s h k.
    marks_number s c.args.place _ (ap (λ n. n + c.args.place.dot) c.first_of.ensures) h k
