use Rattle.tables.proofs.TableReading.{table_refuses_lem}
use Rattle.tables.proofs.table_refuses.Goals as goal

pub returns : goal.returns
returns c = table_refuses_lem
