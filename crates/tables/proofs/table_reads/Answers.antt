use Rattle.tables.proofs.TableReading.{table_reads_lem}
use Rattle.tables.proofs.table_reads.Goals as goal

pub returns : goal.returns
returns c = table_reads_lem
