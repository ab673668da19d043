use Rattle.std.proofs.Common.{rules}
use Rattle.words.proofs.PackedLaws.{read_byte}
use Rattle.words.proofs.packed.read.Goals as goal

pub returns : goal.returns
returns c = search (rules, read_byte)
