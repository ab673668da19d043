use Rattle.std.proofs.Common.{get_or, ◌∙◌, arith, rules}
use lib.Bits.{bit_and}
use Rattle.grammar.proofs.Spelled.{length_each}
use Rattle.reader.specs.Memory.{low_byte}
use Rattle.reader.proofs.Bytes.{made_all, byte_each}
use Rattle.reader.proofs.memory.low_bytes.Goals as goal

pub returns : goal.returns
returns g c =
    made_all _ _ (λ i. bit_and (get_or c.args.words.now i 0) 255) (λ i y q k. search rules) _ _ g.row.N c.from_fn.ensures.items
    (length_each low_byte c.args.words.now ∙ c.requires) (λ i h. byte_each c.args.words.now i (omega (arith, c.requires)))
