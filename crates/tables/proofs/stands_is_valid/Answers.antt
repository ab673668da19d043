use Rattle.tables.proofs.Standing.{stands_is_valid_lem}
use Rattle.tables.proofs.stands_is_valid.Goals as goal

pub returns : goal.returns
returns c = stands_is_valid_lem
