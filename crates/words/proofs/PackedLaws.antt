-- Bytes packed in a row of words: reading, writing, and the stack of the first of them.
--     length_unpacked, unpacked_at, unpacked_past, read_byte      what is read
--     unpacked_set      what a write leaves
--     stacked_push, stacked_more, stacked_drop, length_stacked      the stack after a push, below its top, after pops
use Rattle.std.proofs.Common.{◌≡◌, ℕ, zero, suc, ◌-◌, ◌*◌, ◌/◌, ◌%◌, ◌<◌, ◌≤◌, ltb, ◌≢◌, List, ◌∷◌, length, get_or, drop, set, sym, refl, ap, ◌∙◌, ap₂, ⊎_elim, div-add-mod', arith, lit<}
use Rattle.std.proofs.lemmas.Nat.{mod_below}
use Rattle.std.proofs.lemmas.List.FromFn.{length-map-range_with_len, get_or-map-range_with_len}
use Rattle.std.proofs.lemmas.List.{length-set, get_or-set_same, get_or-set_other, get_or_past, set_past, ext_get_or}
use Rattle.std.proofs.lemmas.Bool.{cases_eq, cases_lt, lt-ltb, le-ltb}
use Rattle.std.specs.Int.{w64, to_le_bytes}
use Rattle.words.specs.Packed.{byte, byte_at, unpacked, stacked}
use Rattle.words.proofs.BytesOfWord.{IsWritten, byte_listed, byte_of_zero, byte_same, byte_other}

pub length_unpacked : (m : List ℕ) → length (unpacked m) ≡ 8 * length m
unfolding unpacked
length_unpacked m = length-map-range_with_len (byte_at m) 0 (8 * length m)

-- a byte is within the row where its word is
pub byte_in : (m : List ℕ) (i : ℕ) → i / 8 < length m → i < 8 * length m
byte_in m i h = omega (arith, div-add-mod' i 8)

pub byte_out : (m : List ℕ) (i : ℕ) → length m ≤ i / 8 → 8 * length m ≤ i
byte_out m i h = omega (arith, div-add-mod' i 8)

pub room_by_words : (m : List ℕ) (i : ℕ) → ltb (i / 8) (length m) ≡ ltb i (length (unpacked m))
room_by_words m i =
    ⊎_elim
    (λ h. lt-ltb (i / 8) (length m) h ∙ sym (lt-ltb i (length (unpacked m)) (omega (arith, length_unpacked m, byte_in m i h))))
    (λ h. le-ltb (i / 8) (length m) h ∙ sym (le-ltb i (length (unpacked m)) (omega (arith, length_unpacked m, byte_out m i h))))
    (cases_lt (i / 8) (length m))

pub unpacked_at : (m : List ℕ) (i : ℕ) → i < 8 * length m → get_or (unpacked m) i 0 ≡ byte_at m i
unfolding unpacked
unpacked_at m i h = get_or-map-range_with_len (byte_at m) 0 (8 * length m) i i 0 h (omega arith)

pub unpacked_past : (m : List ℕ) (i : ℕ) → 8 * length m ≤ i → get_or (unpacked m) i 0 ≡ 0
unpacked_past m i h = get_or_past (unpacked m) i 0 (omega (arith, length_unpacked m))

-- a byte is read from its word, and from 0 past the end
pub read_byte : (m : List ℕ) (i : ℕ) → get_or (to_le_bytes w64 (get_or m (i / 8) 0)) (i % 8) 0 ≡ get_or (unpacked m) i 0
unfolding byte_at
read_byte m i =
    byte_listed (get_or m (i / 8) 0) (i % 8) (mod_below i 8 (lit< tt))
    ∙ ⊎_elim (λ h. sym (unpacked_at m i (byte_in m i h)))
    (λ h. ap (λ w. byte w (i % 8)) (get_or_past m (i / 8) 0 h) ∙ byte_of_zero (i % 8) ∙ sym (unpacked_past m i (byte_out m i h)))
    (cases_lt (i / 8) (length m))

-- the word of place i replaced by one with another byte there
module _ (m : List ℕ) (i s n : ℕ) (hi : i / 8 < length m) (new : IsWritten (get_or m (i / 8) 0) (i % 8) s n) where
  abbrev after : List ℕ
  after = set m (i / 8) n

  in_word : (q : ℕ) → q % 8 < 8
  in_word q = mod_below q 8 (lit< tt)

  at_same : byte_at after i ≡ s
  unfolding byte_at
  at_same = ap (λ w. byte w (i % 8)) (get_or-set_same m (i / 8) n 0 hi) ∙ byte_same _ (i % 8) s n new (in_word i)

  at_other : (q : ℕ) → q ≢ i → byte_at after q ≡ byte_at m q
  unfolding byte_at
  at_other q d =
      ⊎_elim
      (λ e. ap (λ k. byte (get_or after k 0) (q % 8)) e ∙ ap (λ w. byte w (q % 8)) (get_or-set_same m (i / 8) n 0 hi)
      ∙ byte_other _ (i % 8) s n new (q % 8) (in_word q) (λ f. d (omega (arith, div-add-mod' q 8, div-add-mod' i 8)))
      ∙ ap (λ k. byte (get_or m k 0) (q % 8)) (sym e))
      (λ e. ap (λ w. byte w (q % 8)) (get_or-set_other m (i / 8) (q / 8) n 0 e))
      (cases_eq (q / 8) (i / 8))

  length_after : length after ≡ length m
  length_after = length-set m (i / 8) n

  pub unpacked_set : unpacked after ≡ set (unpacked m) i s
  unpacked_set =
      ext_get_or 0 (unpacked after) (set (unpacked m) i s)
      (length_unpacked after ∙ ap (λ k. 8 * k) length_after ∙ sym (length-set (unpacked m) i s ∙ length_unpacked m))
      (λ q h. let l : q < 8 * length m = omega (arith, length_unpacked after, length_after) in
      unpacked_at after q (omega (arith, length_after))
      ∙ ⊎_elim
      (λ e. ap (byte_at after) e ∙ at_same ∙ sym (get_or-set_same (unpacked m) i s 0 (omega (arith, length_unpacked m, byte_in m i hi)))
      ∙ ap (λ k. get_or (set (unpacked m) i s) k 0) (sym e))
      (λ d. at_other q d ∙ sym (unpacked_at m q l) ∙ sym (get_or-set_other (unpacked m) i q s 0 d))
      (cases_eq q i))

pub unpacked_set_past : (m : List ℕ) (i s : ℕ) → length m ≤ i / 8 → set (unpacked m) i s ≡ unpacked m
unpacked_set_past m i s h = set_past (unpacked m) i s (omega (arith, length_unpacked m, byte_out m i h))

-- ---- the stack

pub length_stacked : (h : ℕ) (bs : List ℕ) → length (stacked h bs) ≡ h
unfolding stacked
length_stacked zero bs = refl
length_stacked (suc h) bs = ap suc (length_stacked h bs)

pub stacked_more : (h : ℕ) (bs : List ℕ) → stacked (suc h) bs ≡ get_or bs h 0 ∷ stacked h bs
unfolding stacked
stacked_more h bs = refl

-- a write above the stack leaves it
pub stacked_set : (h i b : ℕ) (bs : List ℕ) → h ≤ i → stacked h (set bs i b) ≡ stacked h bs
unfolding stacked
stacked_set zero i b bs l = refl
stacked_set (suc h) i b bs l = ap₂ (λ x xs. x ∷ xs) (get_or-set_other bs i h b 0 (λ e. omega arith)) (stacked_set h i b bs (omega arith))

pub stacked_push : (h b : ℕ) (bs : List ℕ) → h < length bs → stacked (suc h) (set bs h b) ≡ b ∷ stacked h bs
unfolding stacked
stacked_push h b bs l = ap₂ (λ x xs. x ∷ xs) (get_or-set_same bs h b 0 l) (stacked_set h h b bs (omega arith))

pub stacked_drop : (k h : ℕ) (bs : List ℕ) → drop k (stacked h bs) ≡ stacked (h - k) bs
unfolding stacked
stacked_drop zero h bs = let e : h - 0 ≡ h = omega arith in ap (λ n. stacked n bs) (sym e)
stacked_drop (suc k) zero bs = let e : 0 - suc k ≡ 0 = omega arith in ap (λ n. stacked n bs) (sym e)
stacked_drop (suc k) (suc h) bs = let e : h - k ≡ suc h - suc k = omega arith in stacked_drop k h bs ∙ ap (λ n. stacked n bs) e
