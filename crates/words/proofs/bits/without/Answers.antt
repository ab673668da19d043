use Rattle.std.proofs.Common.{◌≡◌, ◌-◌, ◌^◌, ◌<◌, sym, ap, ◌∙◌, arith, rules}
use lib.Bits.{bit_and, and_self, xor_add_and}
use Rattle.std.proofs.lemmas.Nat.{and_assoc, and_comm, and-not}
use Rattle.words.proofs.bits.without.Goals as goal

pub returns : goal.returns
returns c =
    let a = c.args.word in
    let m = c.args.mask in
    let fits : a < 2 ^ 64 = search rules in
    let fits_mask : m < 2 ^ 64 = search rules in
    let both : bit_and a (bit_and a m) ≡ bit_and a m = sym (and_assoc m a a) ∙ ap (λ x. bit_and x m) (and_self a) in
    omega (arith, and-not 64 m a fits_mask fits, and_comm a (18446744073709551615 - m), and_comm a m, xor_add_and a (bit_and a m), both)
