use Rattle.tables.proofs.MadeTable.{table_is_made_lem}
use Rattle.tables.proofs.table_is_made.Goals as goal

pub returns : goal.returns
returns c = table_is_made_lem
