use Rattle.std.proofs.Common.{rules}
use Rattle.std.proofs.lemmas.Nat.{and_mask}
use Rattle.words.proofs.BitLaws.{low_min}
use Rattle.words.proofs.bits.low.Goals as goal

pub returns : goal.returns
returns c = search (rules, and_mask, low_min)
