-- The laws of bits.
--     has_or, has_and, has_xor, has_without      the bits of an or, an and, an exclusive or, and of a word less a mask
--     has_zero, has_pow, has_bit_of, has_ones      the bits of 0, of one bit alone, and of the mask of the n lowest
--     has_low, has_shr, has_shl, has_past, low_min      the bits of a remainder, of shifts, and past the width
--     has_bit_ext, nonzero_has, has_nonzero      numbers with the same bits are equal; a number has a bit just if it is not 0
--     bits_below, bit_of_below      a number whose bits are below k is below 2 ^ k
--     trailing_has      the lowest bit is where the trailing zeros end
use Rattle.std.proofs.Common.{◌≡◌, ℕ, zero, suc, ◌+◌, ◌-◌, ◌*◌, ◌/◌, ◌%◌, ◌^◌, ◌<◌, ◌≤◌, min, max, Bool, true, false, not, ◌&&◌, ◌||◌, eqb, ltb, leb, ◌⊎◌, sym, refl, ap, ◌∙◌, subst, ap₂, inl, inr, ⊎_elim, mod-eq_of_lt, mul_assoc, pow-suc, div-add-mod', div-one, add-one, one-add, arith, lit<}
use native.Mathlib.Nat.{div-eq_of_lt, mul-mod_left, mod-le}
use Rattle.std.proofs.Math.Bool.{xor}
use lib.Arith.{bin_ind}
use lib.Bits.{bit_xor, differ, xor_step, bit_and, bit_or, or_step, and_step}
use lib.Count.{count_trailing_zeros, under}
use lib.Pow.{mod-mod-pow}
use Rattle.std.proofs.lemmas.Nat.{xor_shr, or_shr, and_shr, mod-mul-add, div-mul-add, mod_below, shl-shr, pow-add, pow_below, pow_pos, shr-shr, shr_below, field_of}
use Rattle.std.proofs.lemmas.Bool.{cases_order, cases_lt, cases_eq, cases_Bool, cond_both, and_right, ne_eqb, ltb-true, lt-ltb, le-ltb, le-leb, lt-leb, both_ways}
use Rattle.std.proofs.lemmas.Bool.Decides.{nat_tests}
use Rattle.words.specs.Bits.{has_bit, bit_of}

-- a remainder by 2 is 0 or 1
below_two : (x : ℕ) → x < 2 → (x ≡ 0) ⊎ (x ≡ 1)
below_two x h = grind (arith, cases_eq x 0)

parity : (x : ℕ) → (x % 2 ≡ 0) ⊎ (x % 2 ≡ 1)
parity x = below_two (x % 2) (mod_below x 2 (lit< tt))

-- ---- or, and

pub max_odd : (x y : ℕ) → max (x % 2) (y % 2) < 2
max_odd x y = omega (arith, mod_below x 2 (lit< tt), mod_below y 2 (lit< tt))

min_odd : (x y : ℕ) → min (x % 2) (y % 2) < 2
min_odd x y = omega (arith, mod_below x 2 (lit< tt), mod_below y 2 (lit< tt))

pub or_odd : (x y : ℕ) → bit_or x y % 2 ≡ max (x % 2) (y % 2)
or_odd x y = ap (λ z. z % 2) (or_step x y) ∙ mod-mul-add (bit_or (x / 2) (y / 2)) 2 (max (x % 2) (y % 2)) (max_odd x y)

and_odd : (x y : ℕ) → bit_and x y % 2 ≡ min (x % 2) (y % 2)
and_odd x y = ap (λ z. z % 2) (and_step x y) ∙ mod-mul-add (bit_and (x / 2) (y / 2)) 2 (min (x % 2) (y % 2)) (min_odd x y)

test_max : (u v : ℕ) → (u ≡ 0) ⊎ (u ≡ 1) → (v ≡ 0) ⊎ (v ≡ 1) → eqb (max u v) 1 ≡ (eqb u 1 || eqb v 1)
test_max u v (inl p) (inl q) = rw (p, q)
test_max u v (inl p) (inr q) = rw (p, q)
test_max u v (inr p) (inl q) = rw (p, q)
test_max u v (inr p) (inr q) = rw (p, q)

test_min : (u v : ℕ) → (u ≡ 0) ⊎ (u ≡ 1) → (v ≡ 0) ⊎ (v ≡ 1) → eqb (min u v) 1 ≡ (eqb u 1 && eqb v 1)
test_min u v (inl p) (inl q) = rw (p, q)
test_min u v (inl p) (inr q) = rw (p, q)
test_min u v (inr p) (inl q) = rw (p, q)
test_min u v (inr p) (inr q) = rw (p, q)

pub has_or : (t a b : ℕ) → has_bit t (bit_or a b) ≡ (has_bit t a || has_bit t b)
unfolding has_bit
has_or t a b =
    ap (λ z. eqb (z % 2) 1) (or_shr a b t) ∙ ap (λ z. eqb z 1) (or_odd (a / 2 ^ t) (b / 2 ^ t))
    ∙ test_max _ _ (parity (a / 2 ^ t)) (parity (b / 2 ^ t))

pub has_and : (t a b : ℕ) → has_bit t (bit_and a b) ≡ (has_bit t a && has_bit t b)
unfolding has_bit
has_and t a b =
    ap (λ z. eqb (z % 2) 1) (and_shr a b t) ∙ ap (λ z. eqb z 1) (and_odd (a / 2 ^ t) (b / 2 ^ t))
    ∙ test_min _ _ (parity (a / 2 ^ t)) (parity (b / 2 ^ t))

-- ---- exclusive or, and a word less a mask

differ_odd : (u v : ℕ) → (u ≡ 0) ⊎ (u ≡ 1) → (v ≡ 0) ⊎ (v ≡ 1) → (differ u v < 2) × (eqb (differ u v) 1 ≡ xor (eqb u 1) (eqb v 1))
unfolding xor
differ_odd u v (inl p) (inl q) = rw (p, q) (lit< tt, refl)
differ_odd u v (inl p) (inr q) = rw (p, q) (lit< tt, refl)
differ_odd u v (inr p) (inl q) = rw (p, q) (lit< tt, refl)
differ_odd u v (inr p) (inr q) = rw (p, q) (lit< tt, refl)

xor_odd : (x y : ℕ) → bit_xor x y % 2 ≡ differ (x % 2) (y % 2)
xor_odd x y =
    ap (λ z. z % 2) (xor_step x y)
    ∙ mod-mul-add (bit_xor (x / 2) (y / 2)) 2 (differ (x % 2) (y % 2)) (differ_odd _ _ (parity x) (parity y)).0

pub has_xor : (t a b : ℕ) → has_bit t (bit_xor a b) ≡ xor (has_bit t a) (has_bit t b)
unfolding has_bit
has_xor t a b =
    ap (λ z. eqb (z % 2) 1) (xor_shr a b t) ∙ ap (λ z. eqb z 1) (xor_odd (a / 2 ^ t) (b / 2 ^ t))
    ∙ (differ_odd _ _ (parity (a / 2 ^ t)) (parity (b / 2 ^ t))).1

xor_and : (x y : Bool) → xor x (x && y) ≡ (x && not y)
unfolding xor
xor_and true true = refl
xor_and true false = refl
xor_and false y = refl

pub has_without : (t a b : ℕ) → has_bit t (bit_xor a (bit_and a b)) ≡ (has_bit t a && not (has_bit t b))
has_without t a b = has_xor t a (bit_and a b) ∙ ap (xor (has_bit t a)) (has_and t a b) ∙ xor_and (has_bit t a) (has_bit t b)

-- ---- shifts and remainders

pub has_shr : (t k w : ℕ) → has_bit t (w / 2 ^ k) ≡ has_bit (k + t) w
unfolding has_bit
has_shr t k w = ap (λ z. eqb (z % 2) 1) (shr-shr w k t)

wider : (w k t : ℕ) → k ≤ t → w < 2 ^ k → w < 2 ^ t
wider w k t h l = ⊎_elim (λ e. omega (arith, pow_below k t e)) (λ e. let q : k ≡ t = omega arith in subst (λ n. w < 2 ^ n) q l) (cases_lt k t)

pub has_past : (t k w : ℕ) → k ≤ t → w < 2 ^ k → has_bit t w ≡ false
unfolding has_bit
has_past t k w h l = ap (λ z. eqb (z % 2) 1) (div-eq_of_lt (wider w k t h l))

-- a word of k bits has no others
pub low_min : (w k t : ℕ) → w < 2 ^ k → w % 2 ^ min t k ≡ w % 2 ^ t
low_min w k t l =
    ⊎_elim (λ h. let e : min t k ≡ t = omega arith in ap (λ n. w % 2 ^ n) e)
    (λ h. let e : min t k ≡ k = omega arith in ap (λ n. w % 2 ^ n) e ∙ mod-eq_of_lt l ∙ sym (mod-eq_of_lt (wider w k t h l)))
    (cases_lt t k)

-- the lowest bit of a remainder by a power of two
mod_parity : (x k : ℕ) → x % 2 ^ suc k % 2 ≡ x % 2
mod_parity x k = ap (λ n. x % 2 ^ n % 2) (sym (add-one k)) ∙ mod-mod-pow x k 1

has_low_below : (t n w : ℕ) → t < n → has_bit t (w % 2 ^ n) ≡ has_bit t w
unfolding has_bit
has_low_below t n w h =
    let e : n ≡ suc (n - t - 1) + t = omega arith in
    ap (λ m. eqb (w % 2 ^ m / 2 ^ t % 2) 1) e ∙ ap (λ z. eqb (z % 2) 1) (field_of w (suc (n - t - 1)) t)
    ∙ ap (λ z. eqb z 1) (mod_parity (w / 2 ^ t) (n - t - 1))

pub has_low : (t n w : ℕ) → has_bit t (w % 2 ^ n) ≡ (ltb t n && has_bit t w)
has_low t n w =
    ⊎_elim (λ h. has_low_below t n w h ∙ sym (ap (λ b. b && has_bit t w) (lt-ltb t n h)))
    (λ h. has_past t n (w % 2 ^ n) h (mod_below w (2 ^ n) (pow_pos n)) ∙ sym (ap (λ b. b && has_bit t w) (le-ltb t n h)))
    (cases_lt t n)

shl_above : (t k w : ℕ) → k ≤ t → has_bit t (w * 2 ^ k) ≡ has_bit (t - k) w
unfolding has_bit
shl_above t k w h =
    let e : t ≡ k + (t - k) = omega arith in
    ap (λ n. eqb (w * 2 ^ k / 2 ^ n % 2) 1) e ∙ ap (λ z. eqb (z % 2) 1) (sym (shr-shr (w * 2 ^ k) k (t - k)))
    ∙ ap (λ z. eqb (z / 2 ^ (t - k) % 2) 1) (shl-shr w k)

shl_below_none : (t k w : ℕ) → t < k → has_bit t (w * 2 ^ k) ≡ false
unfolding has_bit
shl_below_none t k w h =
    let e : k ≡ suc (k - t - 1) + t = omega arith in
    let f : w * 2 ^ k ≡ w * 2 ^ (k - t - 1) * 2 * 2 ^ t =
    ap (λ n. w * 2 ^ n) e ∙ ap (λ z. w * z) (pow-add 2 (suc (k - t - 1)) t ∙ ap (λ z. z * 2 ^ t) (pow-suc 2 (k - t - 1)))
    ∙ sym (mul_assoc w (2 ^ (k - t - 1) * 2) (2 ^ t)) ∙ ap (λ z. z * 2 ^ t) (sym (mul_assoc w (2 ^ (k - t - 1)) 2)) in
    ap (λ z. eqb (z / 2 ^ t % 2) 1) f ∙ ap (λ z. eqb (z % 2) 1) (shl-shr (w * 2 ^ (k - t - 1) * 2) t)
    ∙ ap (λ z. eqb z 1) (mul-mod_left (w * 2 ^ (k - t - 1)) 2)

pub has_shl : (t k w : ℕ) → has_bit t (w * 2 ^ k) ≡ (leb k t && has_bit (t - k) w)
has_shl t k w =
    ⊎_elim (λ h. shl_below_none t k w h ∙ sym (ap (λ b. b && has_bit (t - k) w) (lt-leb k t h)))
    (λ h. shl_above t k w h ∙ sym (ap (λ b. b && has_bit (t - k) w) (le-leb k t h)))
    (cases_lt t k)

-- ---- single words

pub has_zero : (t : ℕ) → has_bit t 0 ≡ false
has_zero t = has_past t 0 0 (omega arith) (lit< tt)

has_half : (t a : ℕ) → has_bit t (a / 2) ≡ has_bit (suc t) a
has_half t a = has_shr t 1 a ∙ ap (λ z. has_bit z a) (one-add t)

low_bit : (w : ℕ) → w % 2 ≡ 1 → has_bit 0 w ≡ true
unfolding has_bit
low_bit w e = ap (λ z. eqb (z % 2) 1) (div-one w) ∙ ap (λ z. eqb z 1) e

has_one : (t : ℕ) → has_bit t 1 ≡ eqb t 0
has_one zero = low_bit 1 refl
has_one (suc t) = has_past (suc t) 1 1 (omega arith) (lit< tt) ∙ sym (ne_eqb (suc t) 0 (λ e. omega arith))

pub has_pow : (t s : ℕ) → has_bit t (2 ^ s) ≡ eqb t s
has_pow t s =
    let e : 2 ^ s ≡ 1 * 2 ^ s = omega arith in
    ap (has_bit t) e ∙ has_shl t s 1 ∙ ap (λ b. leb s t && b) (has_one (t - s)) ∙ grind (arith, nat_tests, cases_order t s)

pub has_bit_of : (t s : ℕ) → has_bit t (bit_of s) ≡ (ltb s 64 && eqb t s)
has_bit_of t s =
    ⊎_elim (λ h. rw (lt-ltb s 64 h) (has_pow t s)) (λ h. rw (le-ltb s 64 h) (has_zero t)) (cases_lt s 64)

pub has_ones : (t n : ℕ) → has_bit t (2 ^ n - 1) ≡ ltb t n
has_ones t zero = has_zero t ∙ sym (le-ltb t 0 (omega arith))
has_ones zero (suc n) =
    let e : 2 ^ suc n - 1 ≡ (2 ^ n - 1) * 2 + 1 = omega (arith, pow-suc 2 n, pow_pos n) in
    ap (has_bit 0) e ∙ low_bit ((2 ^ n - 1) * 2 + 1) (mod-mul-add (2 ^ n - 1) 2 1 (lit< tt)) ∙ sym (lt-ltb 0 (suc n) (omega arith))
has_ones (suc t) (suc n) =
    let e : 2 ^ suc n - 1 ≡ (2 ^ n - 1) * 2 + 1 = omega (arith, pow-suc 2 n, pow_pos n) in
    sym (has_half t (2 ^ suc n - 1)) ∙ ap (λ z. has_bit t (z / 2)) e ∙ ap (has_bit t) (div-mul-add (2 ^ n - 1) 2 1 (lit< tt)) ∙ has_ones t n
    ∙ grind (arith, nat_tests, cases_lt t n)

-- ---- equal bits, equal numbers

same_parity : (a b : ℕ) → has_bit 0 a ≡ has_bit 0 b → a % 2 ≡ b % 2
unfolding has_bit
same_parity a b e = grind (arith, nat_tests, parity a, parity b, e, div-one a, div-one b)

pub has_bit_ext : (k a b : ℕ) → a < 2 ^ k → b < 2 ^ k → ((t : ℕ) → t < k → has_bit t a ≡ has_bit t b) → a ≡ b
has_bit_ext zero a b ha hb same = omega arith
has_bit_ext (suc k) a b ha hb same =
    let half = has_bit_ext k (a / 2) (b / 2) (shr_below a k 1 (rw add-one ha)) (shr_below b k 1 (rw add-one hb))
    (λ t h. has_half t a ∙ same (suc t) (omega arith) ∙ sym (has_half t b)) in
    let low = same_parity a b (same 0 (omega arith)) in
    sym (div-add-mod' a 2) ∙ ap₂ (λ x y. x * 2 + y) half low ∙ div-add-mod' b 2

-- a word with a bit is not 0
pub has_nonzero : (w t : ℕ) → has_bit t w ≡ true → w ≡ 0 → ⊥
has_nonzero w t h e = both_ways _ (ap (has_bit t) e ∙ has_zero t) h

pub nonzero_has : (w : ℕ) → (w ≡ 0 → ⊥) → (t : ℕ) × (has_bit t w ≡ true)
nonzero_has = bin_ind (λ w. (w ≡ 0 → ⊥) → (t : ℕ) × (has_bit t w ≡ true)) (λ n. absurd (n refl)) step
  where
    step : (w : ℕ) → ((w / 2 ≡ 0 → ⊥) → (t : ℕ) × (has_bit t (w / 2) ≡ true)) → (w ≡ 0 → ⊥) → (t : ℕ) × (has_bit t w ≡ true)
    step w ih n =
        ⊎_elim (λ e. let k = ih (λ z. n (omega (arith, div-add-mod' w 2))) in (suc k.0, sym (has_half k.0 w) ∙ k.1))
        (λ e. (0, low_bit w e))
        (parity w)

-- ---- bounds, and the lowest bit

pub bits_below : (m k w : ℕ) → w < 2 ^ m → ((t : ℕ) → has_bit t w ≡ true → t < k) → w < 2 ^ k
bits_below m k w h low = subst (λ z. z < 2 ^ k) (sym e) (mod_below w (2 ^ k) (pow_pos k))
  where
    same : (t : ℕ) → has_bit t w ≡ has_bit t (w % 2 ^ k)
    same t =
        ⊎_elim (λ b. b ∙ sym (has_low t k w ∙ rw (lt-ltb t k (low t b)) b)) (λ b. b ∙ sym (has_low t k w ∙ and_right (ltb t k) (has_bit t w) b))
        (cases_Bool (has_bit t w))

    e : w ≡ w % 2 ^ k
    e = has_bit_ext m w (w % 2 ^ k) h (omega (arith, mod-le w (2 ^ k))) (λ t _. same t)

pub bit_of_below : (t : ℕ) → bit_of t < 2 ^ 64
bit_of_below t = cond_both (ltb t 64) (2 ^ t) 0 (λ z. z < 2 ^ 64) (λ h. pow_below t 64 (ltb-true t 64 h)) (λ h. lit< tt)

pub trailing_has : (k w : ℕ) → w < 2 ^ k → 0 < w → has_bit (count_trailing_zeros k w) w ≡ true
unfolding count_trailing_zeros
trailing_has zero w h p = absurd (omega arith)
trailing_has (suc k) w h p = go (parity w) (trailing_has k (w / 2) (shr_below w k 1 (rw add-one h)))
  where
    go : (w % 2 ≡ 0) ⊎ (w % 2 ≡ 1) → (0 < w / 2 → has_bit (count_trailing_zeros k (w / 2)) (w / 2) ≡ true) → has_bit (under (w % 2) (count_trailing_zeros k (w / 2))) w ≡ true
    go (inl e) ih = rw e (sym (has_half (count_trailing_zeros k (w / 2)) w) ∙ ih (omega (arith, div-add-mod' w 2)))
    go (inr e) ih = rw e (low_bit w e)
