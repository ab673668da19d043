use Rattle.std.proofs.Common.{length}
use Rattle.console.proofs.print_rows.Given as goal

abbrev pub decreases-row : goal.decreases-row
decreases-row l = length l.rest
