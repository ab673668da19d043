use Rattle.conflicts.proofs.Finder.{clash_found_lem}
use Rattle.conflicts.proofs.clash_found.Goals as goal

pub returns : goal.returns
returns c = clash_found_lem
