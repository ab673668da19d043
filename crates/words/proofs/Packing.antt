-- Bytes read off words, packed again, are those words; and the bytes of words that are 0.
use Rattle.std.proofs.Common.{◌≡◌, ℕ, zero, suc, ◌+◌, ◌*◌, ◌/◌, ◌%◌, ◌^◌, ◌<◌, List, length, get_or, replicate, sym, refl, ap, ◌∙◌, ap₂, mod-eq_of_lt, div-add-mod', arith, lit<}
use lib.Pow.{mod-mod-pow}
use Rattle.std.proofs.lemmas.Nat.{field_of, mod_below, shr_split}
use Rattle.std.proofs.lemmas.List.FromFn.{length-map-range_with_len, get_or-map-range_with_len}
use Rattle.std.proofs.lemmas.List.{ext_get_or, get_or-replicate, length-replicate}
use Rattle.words.specs.Packed.{byte, byte_at, unpacked, joined, word_at, packed}
use Rattle.words.proofs.BytesOfWord.{byte_of_zero}
use Rattle.words.proofs.PackedLaws.{length_unpacked, unpacked_at}

joined_same : (n : ℕ) (f h : ℕ → ℕ) → ((j : ℕ) → j < n → f j ≡ h j) → joined n f ≡ joined n h
unfolding joined
joined_same zero f h e = refl
joined_same (suc n) f h e = ap₂ (λ x y. x * 2 ^ (8 * n) + y) (e n (omega arith)) (joined_same n f h (λ j l. e j (omega arith)))

joined_bytes : (n w : ℕ) → joined n (byte w) ≡ w % 2 ^ (8 * n)
unfolding joined byte
joined_bytes zero w = let h = mod_below w 1 (lit< tt) in let z : w % 1 ≡ 0 = omega arith in sym z
joined_bytes (suc n) w =
    let e : 8 + 8 * n ≡ 8 * suc n = omega arith in
    ap₂ (λ x y. x * 2 ^ (8 * n) + y) (sym (field_of w 8 (8 * n))) (joined_bytes n w ∙ sym (mod-mod-pow w 8 (8 * n)))
    ∙ shr_split (w % 2 ^ (8 + 8 * n)) (8 * n) ∙ ap (λ k. w % 2 ^ k) e

-- byte j of word k
byte_in_word : (m : List ℕ) (k j : ℕ) → k < length m → j < 8 → get_or (unpacked m) (8 * k + j) 0 ≡ byte (get_or m k 0) j
unfolding byte_at
byte_in_word m k j h l =
    let a : (8 * k + j) / 8 ≡ k = omega (arith, div-add-mod' (8 * k + j) 8, mod_below (8 * k + j) 8 (lit< tt)) in
    let b : (8 * k + j) % 8 ≡ j = omega (arith, div-add-mod' (8 * k + j) 8, mod_below (8 * k + j) 8 (lit< tt)) in
    unpacked_at m (8 * k + j) (omega arith) ∙ ap₂ (λ x y. byte (get_or m x 0) y) a b

word_again : (m : List ℕ) (k : ℕ) → k < length m → get_or m k 0 < 2 ^ 64 → word_at (unpacked m) k ≡ get_or m k 0
unfolding word_at
word_again m k h fits =
    joined_same 8 (λ j. get_or (unpacked m) (8 * k + j) 0) (byte (get_or m k 0)) (λ j l. byte_in_word m k j h l)
    ∙ joined_bytes 8 (get_or m k 0) ∙ mod-eq_of_lt fits

pub packed_unpacked : (m : List ℕ) → ((i : ℕ) → get_or m i 0 < 2 ^ 64) → packed (unpacked m) ≡ m
unfolding packed
packed_unpacked m fits =
    let n : length (unpacked m) / 8 ≡ length m = omega (arith, length_unpacked m, div-add-mod' (length (unpacked m)) 8, mod_below (length (unpacked m)) 8 (lit< tt)) in
    let long : length (packed (unpacked m)) ≡ length m = length-map-range_with_len (word_at (unpacked m)) 0 (length (unpacked m) / 8) ∙ n in
    ext_get_or 0 (packed (unpacked m)) m long
    (λ k l. let h : k < length m = omega arith in
    get_or-map-range_with_len (word_at (unpacked m)) 0 (length (unpacked m) / 8) k k 0 (omega arith) (omega arith) ∙ word_again m k h (fits k))

-- words are known by their bytes
pub unpacked_once : (m n : List ℕ) → ((i : ℕ) → get_or m i 0 < 2 ^ 64) → ((i : ℕ) → get_or n i 0 < 2 ^ 64) → unpacked m ≡ unpacked n → m ≡ n
unpacked_once m n hm hn e = sym (packed_unpacked m hm) ∙ ap packed e ∙ packed_unpacked n hn

byte_of_zeroes : (n i : ℕ) → i < 8 * n → byte_at (replicate n 0) i ≡ 0
unfolding byte_at
byte_of_zeroes n i h =
    let l : i / 8 < n = omega (arith, div-add-mod' i 8, mod_below i 8 (lit< tt)) in
    ap (λ w. byte w (i % 8)) (get_or-replicate n (i / 8) 0 0 l) ∙ byte_of_zero (i % 8)

pub unpacked_zeroes : (n : ℕ) → unpacked (replicate n 0) ≡ replicate (8 * n) 0
unpacked_zeroes n =
    let w = length-replicate {A = ℕ} n 0 in
    let long : length (unpacked (replicate n 0)) ≡ 8 * n = length_unpacked (replicate n 0) ∙ ap (λ k. 8 * k) w in
    ext_get_or 0 (unpacked (replicate n 0)) (replicate (8 * n) 0) (long ∙ sym (length-replicate {A = ℕ} (8 * n) 0))
    (λ i h. let l : i < 8 * n = omega arith in
    unpacked_at (replicate n 0) i (omega arith) ∙ byte_of_zeroes n i l ∙ sym (get_or-replicate (8 * n) i 0 0 l))
