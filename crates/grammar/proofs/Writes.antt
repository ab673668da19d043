-- What a list holds after a write to a part of it, by index.
use Rattle.std.proofs.Common.{◌≡◌, ℕ, ◌+◌, ◌-◌, ◌<◌, ◌≤◌, List, ◌++◌, length, get_or, take, set, replicate, sym, ap, ◌∙◌, inl, inr, arith}
use Rattle.std.proofs.lemmas.List.{get_or_append_left, get_or-append_right, get_or-set_same, get_or-set_other, get_or_default, get_or_past, get_or-replicate, length-replicate, length-take-le}
use Rattle.std.proofs.lemmas.Bool.{cases_lt}

-- the part ys stands in xs from a on, with zs behind it
module _ (xs ys zs : List ℕ) (a : ℕ) (h : a ≤ length xs) where
  pub part_inside : (d : ℕ) → d < length ys → get_or (take a xs ++ (ys ++ zs)) (a + d) 0 ≡ get_or ys d 0
  part_inside d k =
      let e : a + d - a ≡ d = omega arith in
      get_or-append_right (take a xs) (ys ++ zs) a (a + d) 0 (length-take-le a xs h) (omega arith)
      ∙ ap (λ j. get_or (ys ++ zs) j 0) e ∙ get_or_append_left ys zs 0 d k

  -- and one number behind it
  pub part_closed : (row : List ℕ) → ys ≡ row → (b d : ℕ) → d ≤ length row → a + length row < length (take a xs ++ (ys ++ zs)) →
      get_or (set (take a xs ++ (ys ++ zs)) (a + length row) b) (a + d) 0 ≡ get_or row d b
  part_closed row same b d k l =
      elim (cases_lt d (length row)) [
        | inl j ↦
            let n : d < length ys = omega (arith, ap length same) in
            get_or-set_other (take a xs ++ (ys ++ zs)) (a + length row) (a + d) b 0 (λ e. omega arith)
            ∙ part_inside d n ∙ get_or_default ys d 0 b n ∙ ap (λ t. get_or t d b) same
        | inr j ↦
            let e : a + d ≡ a + length row = omega arith in
            ap (λ i. get_or (set (take a xs ++ (ys ++ zs)) (a + length row) b) i 0) e
            ∙ get_or-set_same (take a xs ++ (ys ++ zs)) (a + length row) b 0 l ∙ sym (get_or_past row d b j)
      ]

-- a part that is one number all through
pub part_filled : (xs ys zs : List ℕ) (a n b d : ℕ) → a ≤ length xs → ys ≡ replicate n b → d < n → get_or (take a xs ++ (ys ++ zs)) (a + d) 0 ≡ b
part_filled xs ys zs a n b d h e k =
    let l : length ys ≡ n = ap length e ∙ length-replicate n b in
    part_inside xs ys zs a h d (omega arith) ∙ ap (λ t. get_or t d 0) e ∙ get_or-replicate n d b 0 k
