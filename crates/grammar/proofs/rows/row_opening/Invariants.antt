use Rattle.grammar.proofs.RowBytes.{OpenedTo}
use Rattle.grammar.proofs.rows.row_opening.Given as goal

abbrev pub invariant-loop-code : goal.invariant-loop-code
invariant-loop-code l = OpenedTo l.nullable l.firsts l.row l.code-index l.signs
