use Rattle.tables.proofs.TableDriven.{table_telling_is_the_reading_lem}
use Rattle.tables.proofs.table_telling_is_the_reading.Goals as goal

pub returns : goal.returns
returns c = table_telling_is_the_reading_lem
