use Rattle.tables.proofs.TableReading.{goes_once_lem}
use Rattle.tables.proofs.goes_once.Goals as goal

pub returns : goal.returns
returns c = goes_once_lem
