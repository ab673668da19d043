use Rattle.std.proofs.Common.{◌≡◌, ◌/◌, ◌%◌, ◌<◌, get_or, set, sym, ap, ◌∙◌, rules}
use Rattle.std.specs.Int.{w64, from_le_bytes}
use Rattle.words.proofs.BytesOfWord.{written}
use Rattle.words.proofs.PackedLaws.{unpacked_set, unpacked_set_past}
use Rattle.words.proofs.packed.write.Goals as goal

pub returns-then-place-words : goal.returns-then-place-words
returns-then-place-words c =
    let w = get_or c.args.words.now (c.args.i / 8) 0 in
    let j = c.args.i % 8 in
    let small : c.args.byte < 256 = search rules in
    let joined : c.from_le_bytes.result ≡ from_le_bytes w64 (set c.to_le_bytes-bytes.result j c.args.byte) = c.from_le_bytes.ensures in
    let new = joined ∙ ap (λ bs. from_le_bytes w64 (set bs j c.args.byte)) c.to_le_bytes-bytes.ensures in
    unpacked_set c.args.words.now c.args.i c.args.byte c.from_le_bytes.result c.if-place-words.true (written w j c.args.byte small c.from_le_bytes.result new)

pub returns-else-place-words : goal.returns-else-place-words
returns-else-place-words c = sym (unpacked_set_past c.args.words.now c.args.i c.args.byte c.if-place-words.false)
