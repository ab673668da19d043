-- What is left of a countdown: one taken from the lowest word that is not 0, the words below it borrowing; and all of its words full, or 0.
use Rattle.std.proofs.Common.{◌≡◌, ℕ, zero, suc, ◌+◌, ◌-◌, ◌*◌, ◌^◌, ◌<◌, List, [], ◌∷◌, ◌++◌, length, get_or, drop, set, replicate, refl, ap, ◌∙◌, arith}
use Rattle.std.proofs.lemmas.Nat.{pow-add, pow_pos}
use Rattle.words.specs.Countdown.{value}

abbrev pub highest : ℕ
highest = 18446744073709551615

pub value_borrow : (i : ℕ) (a : List ℕ) → i < length a → 0 < get_or a i 0 → ((k : ℕ) → k < i → get_or a k 0 ≡ 0)
    → value (replicate i highest ++ drop i (set a i (get_or a i 0 - 1))) + 1 ≡ value a
unfolding value
value_borrow i [] l h none = absurd (omega arith)
value_borrow zero (x ∷ xs) l h none = omega arith
value_borrow (suc i) (x ∷ xs) l h none =
    omega (arith, none 0 (omega arith), value_borrow i xs (omega arith) h (λ k j. none (suc k) (omega arith)))

pub value_zeroes : (a : List ℕ) → ((k : ℕ) → k < length a → get_or a k 0 ≡ 0) → value a ≡ 0
unfolding value
value_zeroes [] none = refl
value_zeroes (x ∷ xs) none = omega (arith, none 0 (omega arith), value_zeroes xs (λ k j. none (suc k) (omega arith)))

pub value_full : (n : ℕ) → value (replicate n highest) ≡ 2 ^ (64 * n) - 1
unfolding value
value_full zero = refl
value_full (suc n) =
    let e : 64 * suc n ≡ 64 + 64 * n = omega arith in
    let p : 2 ^ (64 * suc n) ≡ 18446744073709551616 * 2 ^ (64 * n) = ap (λ k. 2 ^ k) e ∙ pow-add 2 64 (64 * n) in
    omega (arith, value_full n, p, pow_pos (64 * n))
