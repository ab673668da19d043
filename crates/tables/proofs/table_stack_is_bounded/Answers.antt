use Rattle.tables.proofs.TableDriven.{table_stack_is_bounded_lem}
use Rattle.tables.proofs.table_stack_is_bounded.Goals as goal

pub returns : goal.returns
returns c = table_stack_is_bounded_lem
