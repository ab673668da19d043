use Rattle.std.proofs.Common.{◌/◌, ◌^◌, ◌<◌, eqb, sym, ap, ◌∙◌, rules}
use Rattle.std.proofs.lemmas.Nat.{and_mask}
use Rattle.std.proofs.lemmas.Bool.{le-ltb}
use Rattle.words.specs.Bits.{has_bit}
use Rattle.words.proofs.BitLaws.{has_past}
use Rattle.words.proofs.bits.test.Goals as goal

pub returns-then-bit-lt64 : goal.returns-then-bit-lt64
unfolding has_bit
returns-then-bit-lt64 c = ap (λ z. eqb z 1) (and_mask (c.args.word / 2 ^ c.args.bit) 1)

pub returns-else-bit-lt64 : goal.returns-else-bit-lt64
returns-else-bit-lt64 c =
    let fits : c.args.word < 2 ^ 64 = search rules in
    le-ltb c.args.bit 64 c.if-bit-lt64.false ∙ sym (has_past c.args.bit 64 c.args.word c.if-bit-lt64.false fits)
