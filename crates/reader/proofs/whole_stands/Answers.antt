use Rattle.reader.proofs.Main.{whole}
use Rattle.reader.proofs.whole_stands.Goals as goal

pub returns : goal.returns
returns c = whole
