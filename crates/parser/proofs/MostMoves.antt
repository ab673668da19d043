-- How many bits a number has that counts all moves: 771 for each 128 symbols.
use Rattle.std.proofs.Common.{◌≡◌, ℕ, zero, suc, ◌+◌, ◌*◌, ◌^◌, ◌<◌, ◌≤◌, sym, ap, ◌∙◌, subst, mul_comm, mul-le-mul_left, mul-suc, arith, lit≤, pow_pos, pow_mono, pow-add}
use Rattle.parser.specs.DriveStatements.{most_moves}

times_below : (a b c d : ℕ) → a ≤ b → c ≤ d → a * c ≤ b * d
times_below a b c d h k =
    let x : a * c ≤ a * d = mul-le-mul_left a k in
    let y : d * a ≤ d * b = mul-le-mul_left d h in
    omega (arith, mul_comm a d, mul_comm b d)

-- the only numbers that are worked out
128_symbols : 65 ^ 128 ≤ 2 ^ 771
128_symbols = lit≤ tt

symbols_below : (m : ℕ) → 65 ^ (128 * m) ≤ 2 ^ (771 * m)
symbols_below zero = omega arith
symbols_below (suc m) =
    let e : 65 ^ (128 * suc m) ≡ 65 ^ (128 * m) * 65 ^ 128 = ap (λ k. 65 ^ k) (let z : 128 * suc m ≡ 128 * m + 128 = omega arith in z) ∙ pow-add 65 (128 * m) 128 in
    let f : 2 ^ (771 * suc m) ≡ 2 ^ (771 * m) * 2 ^ 771 = ap (λ k. 2 ^ k) (let z : 771 * suc m ≡ 771 * m + 771 = omega arith in z) ∙ pow-add 2 (771 * m) 771 in
    let h = times_below (65 ^ (128 * m)) (2 ^ (771 * m)) (65 ^ 128) (2 ^ 771) (symbols_below m) 128_symbols in
    subst (λ x. x ≤ 2 ^ (771 * suc m)) (sym e) (subst (λ y. 65 ^ (128 * m) * 65 ^ 128 ≤ y) (sym f) h)

bits_below : (n b : ℕ) → suc n < 2 ^ b → most_moves n < 2 ^ (771 * (n + 1) + b)
unfolding most_moves
bits_below n b h =
    let p : ℕ = 2 ^ (771 * (n + 1)) in
    let x : 65 ^ (128 * (n + 1)) * suc n ≤ p * suc n = times_below (65 ^ (128 * (n + 1))) p (suc n) (suc n) (symbols_below (n + 1)) (omega arith) in
    let y : p * suc (suc n) ≤ p * 2 ^ b = mul-le-mul_left p h in
    let e : 65 ^ (128 * (n + 1)) * suc n < p * 2 ^ b = omega (arith, mul-suc p (suc n), pow_pos (771 * (n + 1))) in
    subst (λ z. 65 ^ (128 * (n + 1)) * suc n < z) (sym (pow-add 2 (771 * (n + 1)) b)) e

-- so many bits, all ones, are enough to count down from
pub most_moves_below : (n b k : ℕ) → suc n < 2 ^ b → 771 * (n + 1) + b ≤ k → most_moves n < 2 ^ k
most_moves_below n b k h l = let x = bits_below n b h in let y : 2 ^ (771 * (n + 1) + b) ≤ 2 ^ k = pow_mono l in omega arith
