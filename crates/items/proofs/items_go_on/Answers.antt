use Rattle.items.proofs.Forms.{items_go_on_lem}
use Rattle.items.proofs.items_go_on.Goals as goal

pub returns : goal.returns
returns c = items_go_on_lem
