use Rattle.tables.proofs.TableDriven.{table_check_is_exact_lem}
use Rattle.tables.proofs.table_check_is_exact.Goals as goal

pub returns : goal.returns
returns c = table_check_is_exact_lem
