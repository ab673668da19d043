use Rattle.parser.proofs.Kept.{items_are_kept_lem}
use Rattle.parser.proofs.items_are_kept.Goals as goal

pub returns : goal.returns
returns c = items_are_kept_lem
