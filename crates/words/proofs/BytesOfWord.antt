-- The bytes of a word, as the library lists them, and those of the word with one byte written: that byte is the new one, the others are as they were.
use Rattle.std.proofs.Common.{◌≡◌, ℕ, zero, suc, ◌+◌, ◌*◌, ◌/◌, ◌%◌, ◌^◌, ◌<◌, ◌≢◌, List, length, get_or, set, refl, sym, ap, ◌∙◌, subst, ⊎_elim, div-one, pow-suc, arith, lit<}
use native.Mathlib.Nat.{div-eq_of_lt, zero-mod}
use Rattle.std.specs.Int.{w64, to_le_bytes, from_le_bytes, bytes_low_first, byte_at as nth_byte}
use Rattle.std.proofs.lemmas.Nat.{pow-add, pow_pos, mod_below, le_bytes_8}
use Rattle.std.proofs.lemmas.Bool.{cases_eq, cases_lt}
use Rattle.std.proofs.lemmas.Grind.{get_or-set_at}
use Rattle.std.proofs.lemmas.List.{length-set, get_or_past, get_or-set_same, get_or-set_other}
use Rattle.words.specs.Packed.{byte}

pub byte_of_zero : (j : ℕ) → byte 0 j ≡ 0
unfolding byte
byte_of_zero j = ap (λ q. q % 256) (div-eq_of_lt (pow_pos (8 * j))) ∙ zero-mod 256

bytes_pow : (j : ℕ) → 256 ^ j ≡ 2 ^ (8 * j)
bytes_pow zero = refl
bytes_pow (suc j) =
    let e : 8 * j + 8 ≡ 8 * suc j = omega arith in
    pow-suc 256 j ∙ ap (λ z. z * 256) (bytes_pow j) ∙ sym (pow-add 2 (8 * j) 8) ∙ ap (λ k. 2 ^ k) e

nth : (j w : ℕ) → nth_byte j w ≡ byte w j
unfolding byte
nth zero w = ap (λ z. z % 256) (sym (div-one w))
nth (suc j) w = ap (λ z. w / z % 256) (bytes_pow (suc j))

listed : (k i j w d : ℕ) → j < k → get_or (bytes_low_first i k w) j d ≡ nth_byte (i + j) w
listed zero i j w d h = absurd (omega arith)
listed (suc k) i zero w d h = let e : i ≡ i + 0 = omega arith in ap (λ x. nth_byte x w) e
listed (suc k) i (suc j) w d h =
    let e : suc i + j ≡ i + suc j = omega arith in
    listed k (suc i) j w d (omega arith) ∙ ap (λ x. nth_byte x w) e

pub byte_listed : (w j : ℕ) → j < 8 → get_or (to_le_bytes w64 w) j 0 ≡ byte w j
byte_listed w j h = let e : 0 + j ≡ j = omega arith in listed 8 0 j w 0 h ∙ ap (λ x. nth_byte x w) e ∙ nth j w

-- n is the word w with s for byte j
abbrev pub IsWritten : ℕ → ℕ → ℕ → ℕ → Type 0
IsWritten w j s n = to_le_bytes w64 n ≡ set (to_le_bytes w64 w) j s

module _ (w j s n : ℕ) (e : IsWritten w j s n) where
  pub byte_same : j < 8 → byte n j ≡ s
  byte_same h = sym (byte_listed n j h) ∙ ap (λ bs. get_or bs j 0) e ∙ get_or-set_same (to_le_bytes w64 w) j s 0 h

  pub byte_other : (i : ℕ) → i < 8 → i ≢ j → byte n i ≡ byte w i
  byte_other i h d =
      sym (byte_listed n i h) ∙ ap (λ bs. get_or bs i 0) e ∙ get_or-set_other (to_le_bytes w64 w) j i s 0 d ∙ byte_listed w i h

-- the bytes with one replaced, joined again
module _ (w j s : ℕ) (hs : s < 256) where
  abbrev new : List ℕ
  new = set (to_le_bytes w64 w) j s

  long : length new ≡ 8
  long = length-set (to_le_bytes w64 w) j s

  small : (i : ℕ) → get_or new i 0 < 256
  unfolding byte
  small i =
      ⊎_elim
      (λ l. ⊎_elim
      (λ e. omega (arith, hs, get_or-set_at (to_le_bytes w64 w) j i s 0 e (subst (λ k. k < 8) e l)))
      (λ d. omega (arith, get_or-set_other (to_le_bytes w64 w) j i s 0 d, byte_listed w i l, mod_below (w / 2 ^ (8 * i)) 256 (lit< tt)))
      (cases_eq i j))
      (λ l. omega (arith, get_or_past new i 0 (omega (arith, long))))
      (cases_lt i 8)

  pub written : (n : ℕ) → n ≡ from_le_bytes w64 new → IsWritten w j s n
  written n e = le_bytes_8 new n long small e
