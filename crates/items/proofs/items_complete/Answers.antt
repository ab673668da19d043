use Rattle.items.proofs.Forms.{items_complete_lem}
use Rattle.items.proofs.items_complete.Goals as goal

pub returns : goal.returns
returns c = items_complete_lem
