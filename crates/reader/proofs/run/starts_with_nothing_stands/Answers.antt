use Rattle.reader.proofs.Running.{starts_with_nothing}
use Rattle.reader.proofs.run.starts_with_nothing_stands.Goals as goal

pub returns : goal.returns
returns c = starts_with_nothing
