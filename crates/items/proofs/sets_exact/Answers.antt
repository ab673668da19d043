use Rattle.items.proofs.SetsComplete.{sets_exact_lem}
use Rattle.items.proofs.sets_exact.Goals as goal

pub returns : goal.returns
returns c = sets_exact_lem
