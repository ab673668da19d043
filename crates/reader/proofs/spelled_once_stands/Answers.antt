use Rattle.reader.proofs.Decoding.{spelled_once}
use Rattle.reader.proofs.spelled_once_stands.Goals as goal

pub returns : goal.returns
returns c = spelled_once
