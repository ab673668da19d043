-- A row of bytes, packed: its words are small, and its bytes are read off them again.
use Rattle.std.proofs.Common.{◌≡◌, ℕ, zero, suc, ◌+◌, ◌-◌, ◌*◌, ◌/◌, ◌%◌, ◌^◌, ◌<◌, Bool, true, ltb, List, [], ◌∷◌, length, get_or, sym, refl, ap, ◌∙◌, subst, ⊎_elim, mod-eq_of_lt, div-add-mod', arith, lit<}
use lib.Pow.{mod-mod-pow}
use Rattle.std.proofs.lemmas.Nat.{field_of, mod_below, pow-add, div-mul-add, mod-mul-add, mul-add-lt}
use Rattle.std.proofs.lemmas.List.FromFn.{length-map-range_with_len, get_or-map-range_with_len}
use Rattle.std.proofs.lemmas.List.{ext_get_or, get_or_past}
use Rattle.std.proofs.lemmas.Bool.{and_parts, and_from, ltb-true, lt-ltb, cases_eq, cases_lt}
use Rattle.words.specs.Packed.{byte, byte_at, unpacked, joined, word_at, packed}
use Rattle.words.proofs.PackedLaws.{length_unpacked, unpacked_at, unpacked_past}
use Rattle.grammar.specs.Grammar.{every}
use Rattle.reader.proofs.MemoryLaws.{small}
use Rattle.reader.proofs.Telling.{bytes_fit}

abbrev pub a_byte : ℕ → Bool
a_byte b = ltb b 256

pub byte_below : (bs : List ℕ) (i : ℕ) → every a_byte bs ≡ true → get_or bs i 0 < 256
unfolding every
byte_below [] i h = omega arith
byte_below (b ∷ bs) zero h = ltb-true b 256 (and_parts (a_byte b) (every a_byte bs) h).0
byte_below (b ∷ bs) (suc i) h = byte_below bs i (and_parts (a_byte b) (every a_byte bs) h).1

module _ (f : ℕ → ℕ) (bytes : (j : ℕ) → f j < 256) where
  joined_below : (n : ℕ) → joined n f < 2 ^ (8 * n)
  unfolding joined
  joined_below zero = lit< tt
  joined_below (suc n) =
      let e : 8 * suc n ≡ 8 * n + 8 = omega arith in
      let p : 2 ^ (8 * suc n) ≡ 2 ^ (8 * n) * 256 = ap (λ k. 2 ^ k) e ∙ pow-add 2 (8 * n) 8 in
      let b = mul-add-lt (f n) (2 ^ (8 * n)) (joined n f) 256 (bytes n) (joined_below n) in
      omega (arith, p, b)

  byte_of_joined : (n j : ℕ) → j < n → byte (joined n f) j ≡ f j
  unfolding joined byte
  byte_of_joined zero j h = absurd (omega arith)
  byte_of_joined (suc n) j h = ⊎_elim same (λ k. other (λ l. byte_of_joined n j l) (λ e. k e)) (cases_eq j n)
    where
      w : ℕ
      w = f n * 2 ^ (8 * n) + joined n f

      same : j ≡ n → w / 2 ^ (8 * j) % 256 ≡ f j
      same e = rw e (ap (λ z. z % 256) (div-mul-add (f n) (2 ^ (8 * n)) (joined n f) (joined_below n)) ∙ mod-eq_of_lt (bytes n))

      other : (j < n → joined n f / 2 ^ (8 * j) % 256 ≡ f j) → (j ≡ n → ⊥) → w / 2 ^ (8 * j) % 256 ≡ f j
      other before k =
          let l : j < n = ⊎_elim (λ l. l) (λ l. absurd (k (omega arith))) (cases_lt j n) in
          let e : 8 * n ≡ 8 * n - (8 + 8 * j) + (8 + 8 * j) = omega arith in
          let cut : (x : ℕ) → x % 2 ^ (8 * n) % 2 ^ (8 + 8 * j) ≡ x % 2 ^ (8 + 8 * j) =
          λ x. ap (λ k. x % 2 ^ k % 2 ^ (8 + 8 * j)) e ∙ mod-mod-pow x (8 * n - (8 + 8 * j)) (8 + 8 * j) in
          sym (field_of w 8 (8 * j))
          ∙ ap (λ z. z / 2 ^ (8 * j)) (sym (cut w) ∙ ap (λ z. z % 2 ^ (8 + 8 * j)) (mod-mul-add (f n) (2 ^ (8 * n)) (joined n f) (joined_below n)))
          ∙ field_of (joined n f) 8 (8 * j) ∙ before l

small_by : (ws : List ℕ) → ((i : ℕ) → get_or ws i 0 < 2 ^ 64) → every small ws ≡ true
unfolding every
small_by [] h = refl
small_by (w ∷ ws) h = and_from _ _ (lt-ltb w 18446744073709551616 (h 0)) (small_by ws (λ i. h (suc i)))

module _ (bs : List ℕ) (n : ℕ) (long : length bs ≡ 8 * n) (bytes : every a_byte bs ≡ true) where
  eighths : length bs / 8 ≡ n
  eighths = omega (arith, div-add-mod' (length bs) 8, mod_below (length bs) 8 (lit< tt))

  pub length_packed : length (packed bs) ≡ n
  unfolding packed
  length_packed = length-map-range_with_len (word_at bs) 0 (length bs / 8) ∙ eighths

  packed_at : (k : ℕ) → k < n → get_or (packed bs) k 0 ≡ word_at bs k
  unfolding packed
  packed_at k h = get_or-map-range_with_len (word_at bs) 0 (length bs / 8) k k 0 (omega (arith, eighths)) (omega arith)

  word_below : (k : ℕ) → word_at bs k < 2 ^ 64
  unfolding word_at
  word_below k = joined_below (λ j. get_or bs (8 * k + j) 0) (λ j. byte_below bs (8 * k + j) bytes) 8

  byte_again : (i : ℕ) → i / 8 < n → byte_at (packed bs) i ≡ get_or bs i 0
  unfolding byte_at word_at
  byte_again i h =
      let e : 8 * (i / 8) + i % 8 ≡ i = omega (arith, div-add-mod' i 8) in
      ap (λ w. byte w (i % 8)) (packed_at (i / 8) h)
      ∙ byte_of_joined (λ j. get_or bs (8 * (i / 8) + j) 0) (λ j. byte_below bs (8 * (i / 8) + j) bytes) 8 (i % 8) (mod_below i 8 (lit< tt))
      ∙ ap (λ k. get_or bs k 0) e

  pub unpacked_packed : unpacked (packed bs) ≡ bs
  unpacked_packed =
      let l : length (unpacked (packed bs)) ≡ length bs = omega (arith, length_unpacked (packed bs), length_packed) in
      ext_get_or 0 (unpacked (packed bs)) bs l
      (λ i h. let k : i / 8 < n = omega (arith, div-add-mod' i 8) in
      unpacked_at (packed bs) i (omega (arith, length_packed)) ∙ byte_again i k)

  pub small_packed : every small (packed bs) ≡ true
  small_packed = small_by (packed bs) (λ i. ⊎_elim (λ l. subst (λ w. w < 2 ^ 64) (sym (packed_at i l)) (word_below i))
      (λ l. let e : get_or (packed bs) i 0 ≡ 0 = get_or_past (packed bs) i 0 (omega (arith, length_packed)) in rw e (lit< tt)) (cases_lt i n))

-- what is read off words is bytes
pub bytes_unpacked : (m : List ℕ) → every a_byte (unpacked m) ≡ true
unfolding byte_at byte
bytes_unpacked m = bytes_fit (unpacked m) (λ i. ⊎_elim
    (λ l. subst (λ b. b < 256) (sym (unpacked_at m i l)) (mod_below (get_or m (i / 8) 0 / 2 ^ (8 * (i % 8))) 256 (lit< tt)))
    (λ l. let e : get_or (unpacked m) i 0 ≡ 0 = unpacked_past m i l in rw e (lit< tt)) (cases_lt i (8 * length m)))
