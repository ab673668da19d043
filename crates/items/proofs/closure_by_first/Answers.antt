use Rattle.items.proofs.First.{closure_by_first_lem}
use Rattle.items.proofs.closure_by_first.Goals as goal

pub returns : goal.returns
returns c = closure_by_first_lem
