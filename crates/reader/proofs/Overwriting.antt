-- A row written over the beginning of another, one number after the other.
use Rattle.std.proofs.Common.{◌≡◌, ℕ, zero, suc, ◌+◌, ◌<◌, ◌≤◌, List, [], ◌∷◌, ◌++◌, length, get_or, take, drop, set, refl, ap, add-one, arith}

pub over_more : (xs ys : List ℕ) (i : ℕ) → i < length xs → length xs ≤ length ys →
    set (take i xs ++ drop i ys) i (get_or xs i 0) ≡ take (i + 1) xs ++ drop (i + 1) ys
over_more xs ys i h k = rw (add-one i) (go xs ys i h k)
  where
    go : (xs ys : List ℕ) (i : ℕ) → i < length xs → length xs ≤ length ys → set (take i xs ++ drop i ys) i (get_or xs i 0) ≡ take (suc i) xs ++ drop (suc i) ys
    go [] ys i h k = absurd (omega arith)
    go (x ∷ xs) [] i h k = absurd (omega arith)
    go (x ∷ xs) (y ∷ ys) zero h k = refl
    go (x ∷ xs) (y ∷ ys) (suc i) h k = ap (λ (l : List ℕ). x ∷ l) (go xs ys i (omega arith) (omega arith))
