-- The words of pairs: their two parts, the bits of each, and how large they are.
--     pair_once      a pair has one word
--     own_has, own_below, both_has      the bits of the two parts of a word
--     word_own, word_both, word_below      the bits of a word made of two parts, and that it is one of 64 bits
use Rattle.std.proofs.Common.{◌≡◌, ℕ, ◌+◌, ◌*◌, ◌/◌, ◌%◌, ◌^◌, ◌<◌, true, ◌&&◌, ltb, sym, ap, ◌∙◌, arith}
use Rattle.std.proofs.lemmas.Nat.{mod_low, shr_high, shr_below}
use Rattle.std.proofs.lemmas.Bool.{and_parts, ltb-true, lt-ltb}
use Rattle.words.specs.Bits.{has_bit}
use Rattle.words.proofs.BitLaws.{has_low, has_shr}
use Rattle.conflicts.specs.Pairs.{pair, own_part, both_part, word_of}

pub pair_once : (p q i j : ℕ) → q < 192 → j < 192 → pair p q ≡ pair i j → (p ≡ i) × (q ≡ j)
pair_once p q i j h k e = (omega arith, omega arith)

pub pair_below : (p q : ℕ) → p < 192 → q < 192 → pair p q < 36864
pair_below p q h k = omega arith

-- ---- the parts of a word

pub own_has : (t w : ℕ) → t < 25 → has_bit t (own_part w) ≡ has_bit t w
own_has t w h = has_low t 25 w ∙ ap (λ b. b && has_bit t w) (lt-ltb t 25 h)

pub own_below : (t w : ℕ) → has_bit t (own_part w) ≡ true → (t < 25) × (has_bit t w ≡ true)
own_below t w h =
    let k = and_parts (ltb t 25) (has_bit t w) (sym (has_low t 25 w) ∙ h) in
    (ltb-true t 25 k.0, k.1)

pub both_has : (t w : ℕ) → has_bit t (both_part w) ≡ has_bit (25 + t) w
both_has t w = has_shr t 25 w

-- ---- a word of two parts

module _ (own both : ℕ) (fits : own < 2 ^ 25) where
  turned : word_of own both ≡ both * 2 ^ 25 + own
  turned = omega arith

  pub word_own : (t : ℕ) → t < 25 → has_bit t (word_of own both) ≡ has_bit t own
  word_own t h =
      sym (own_has t (word_of own both) h) ∙ ap (λ w. has_bit t (w % 2 ^ 25)) turned ∙ ap (has_bit t) (mod_low both 25 own fits)

  pub word_both : (t : ℕ) → has_bit (25 + t) (word_of own both) ≡ has_bit t both
  word_both t = sym (both_has t (word_of own both)) ∙ ap (λ w. has_bit t (w / 2 ^ 25)) turned ∙ ap (has_bit t) (shr_high both 25 own fits)

  pub word_below : both < 2 ^ 39 → word_of own both < 2 ^ 64
  word_below h = omega arith

pub both_below : (w : ℕ) → w < 2 ^ 64 → both_part w < 2 ^ 39
both_below w h = shr_below w 39 25 h
