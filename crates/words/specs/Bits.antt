-- Bits of a word. Assumes nothing: these are definitions.
use Rattle.std.specs.Prelude.{ℕ, ◌/◌, ◌%◌, ◌^◌, Bool, cond, ◌==◌, bit_and, bit_xor, nat_lt}

-- whether bit t of the number n is set
unfoldable pub has_bit : ℕ → ℕ → Bool
has_bit t n = n / 2 ^ t % 2 == 1

-- the word that has bit t alone; none past 63
abbrev pub bit_of : ℕ → ℕ
bit_of t = cond (nat_lt t 64) (2 ^ t) 0

-- the bits of a that m has not
abbrev pub without_bits : ℕ → ℕ → ℕ
without_bits a m = bit_xor a (bit_and a m)
