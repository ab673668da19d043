-- A mask put into a place of a row: what bits there are afterwards, and that it adds bits or changes nothing.
--     or_assoc      an or of three
--     or_grows, up_or_at, grew_or_at      an or changes nothing, or sets more bits
--     or_at_cases, or_at_keeps, or_at_has, or_at_rest      where a bit of the new row comes from; old bits stay; new ones come
--     zero_at, words_zero      a row of zeroes
--     size_below, words_or_at      a row of n words has at most 64 * n bits, and an or keeps it one
use Rattle.std.proofs.Common.{◌≡◌, ℕ, zero, suc, ◌+◌, ◌*◌, ◌/◌, ◌%◌, ◌^◌, ◌<◌, ◌≤◌, max, true, not, eqb, ◌⊎◌, List, length, get_or, set, replicate, sym, refl, ap, ◌∙◌, subst, ap₂, inl, inr, ⊎_elim, mul_comm, div-add-mod', arith, lit<}
use lib.Arith.{bin_ind}
use lib.Bits.{bit_or, or_step, or_zero_r}
use lib.Count.{ones, ones_step, ones-le}
use Rattle.std.proofs.lemmas.Nat.{or_lt, div-mul-add}
use Rattle.std.proofs.ByRecursion.{All-from_get_or, sum_by_le}
use Rattle.std.proofs.lemmas.List.{set-get_or, set_past, get_or-set_same, get_or-set_other, length-set, length-replicate}
use Rattle.std.proofs.lemmas.List.Sums.{sum_by-set}
use Rattle.std.proofs.lemmas.Bool.{cases_lt, cases_eq, eq-eqb, ne_eqb, or_cases, or_left, or_right, true≢false, false≢true}
use Rattle.words.specs.Bits.{has_bit}
use Rattle.words.specs.Iter.{Up, Grew}
use Rattle.words.specs.Rows.{or_at, size, Words}
use Rattle.words.proofs.BitLaws.{has_or, or_odd, max_odd}

or_half : (x y : ℕ) → bit_or x y / 2 ≡ bit_or (x / 2) (y / 2)
or_half x y = ap (λ z. z / 2) (or_step x y) ∙ div-mul-add (bit_or (x / 2) (y / 2)) 2 (max (x % 2) (y % 2)) (max_odd x y)

pub or_assoc : (a b c : ℕ) → bit_or (bit_or a b) c ≡ bit_or a (bit_or b c)
or_assoc = bin_ind (λ a. (b c : ℕ) → bit_or (bit_or a b) c ≡ bit_or a (bit_or b c)) (λ b c. refl) step
  where
    step : (a : ℕ) → ((b c : ℕ) → bit_or (bit_or (a / 2) b) c ≡ bit_or (a / 2) (bit_or b c)) → (b c : ℕ) → bit_or (bit_or a b) c ≡ bit_or a (bit_or b c)
    step a ih b c =
        let half : bit_or (bit_or a b) c / 2 ≡ bit_or a (bit_or b c) / 2 =
        or_half (bit_or a b) c ∙ ap (λ x. bit_or x (c / 2)) (or_half a b) ∙ ih (b / 2) (c / 2)
        ∙ sym (or_half a (bit_or b c) ∙ ap (bit_or (a / 2)) (or_half b c)) in
        let low : bit_or (bit_or a b) c % 2 ≡ bit_or a (bit_or b c) % 2 =
        omega (arith, or_odd (bit_or a b) c, or_odd a b, or_odd a (bit_or b c), or_odd b c) in
        sym (div-add-mod' (bit_or (bit_or a b) c) 2) ∙ ap₂ (λ x y. x * 2 + y) half low ∙ div-add-mod' (bit_or a (bit_or b c)) 2

ones_or : (a b : ℕ) → ones (bit_or a b) ≡ max (a % 2) (b % 2) + ones (bit_or (a / 2) (b / 2))
ones_or a b = ones_step (bit_or a b) ∙ ap₂ (λ x y. x + ones y) (or_odd a b) (or_half a b)

pub or_grows : (a b : ℕ) → Up ones a (bit_or a b)
or_grows a b = bin_ind (λ b. (a : ℕ) → Up ones a (bit_or a b)) (λ a. inl (or_zero_r a)) (λ b ih a. step a b (ih (a / 2))) b a
  where
    step : (a b : ℕ) → Up ones (a / 2) (bit_or (a / 2) (b / 2)) → Up ones a (bit_or a b)
    step a b (inr h) = inr (omega (arith, ones_or a b, ones_step a))
    step a b (inl e) =
        ⊎_elim (λ h. inr (omega (arith, ones_or a b, ones_step a, ap ones e)))
        (λ h. inl (omega (arith, or_step a b, e, div-add-mod' a 2)))
        (cases_lt (a % 2) (max (a % 2) (b % 2)))

pub or_at_none : (s : List ℕ) (q : ℕ) → or_at s q 0 ≡ s
or_at_none s q = ap (set s q) (or_zero_r (get_or s q 0)) ∙ set-get_or s q 0

pub up_or_at : (s : List ℕ) (q m : ℕ) → Up size s (or_at s q m)
up_or_at s q m =
    ⊎_elim
    (λ l. ⊎_elim (λ e. inl (ap (λ z. set s q z) e ∙ set-get_or s q 0))
    (λ g. inr (omega (arith, sum_by-set ones s q (bit_or (get_or s q 0) m) 0 l)))
    (or_grows (get_or s q 0) m))
    (λ l. inl (set_past s q _ l))
    (cases_lt q (length s))

-- what the test of the old word against the new says
pub grew_or_at : (s : List ℕ) (q m : ℕ) → q < length s → Grew size s (or_at s q m) (not (eqb (get_or s q 0) (bit_or (get_or s q 0) m)))
grew_or_at s q m l =
    ⊎_elim
    (λ e. rw (eq-eqb (get_or s q 0) (bit_or (get_or s q 0) m) (sym e))
    (record { more = λ f. absurd (false≢true f); same = λ _. ap (λ z. set s q z) e ∙ set-get_or s q 0 }))
    (λ g. rw (ne_eqb (get_or s q 0) (bit_or (get_or s q 0) m) (λ e. omega (arith, ap ones e)))
    (record { more = λ _. omega (arith, sum_by-set ones s q (bit_or (get_or s q 0) m) 0 l); same = λ f. absurd (true≢false f) }))
    (or_grows (get_or s q 0) m)

-- ---- the bits of the new row

module _ (s : List ℕ) (q m : ℕ) where
  -- the new word at q
  at_same : q < length s → get_or (or_at s q m) q 0 ≡ bit_or (get_or s q 0) m
  at_same l = get_or-set_same s q (bit_or (get_or s q 0) m) 0 l

  pub or_at_cases : (p b : ℕ) → has_bit b (get_or (or_at s q m) p 0) ≡ true → (has_bit b (get_or s p 0) ≡ true) ⊎ ((p ≡ q) × (q < length s) × (has_bit b m ≡ true))
  or_at_cases p b h =
      ⊎_elim
      (λ l. ⊎_elim
      (λ i. ⊎_elim (λ x. inl (ap (λ k. has_bit b (get_or s k 0)) i ∙ x)) (λ x. inr (i, l, x))
      (or_cases _ _ (sym (has_or b (get_or s q 0) m) ∙ ap (has_bit b) (sym (at_same l)) ∙ ap (λ k. has_bit b (get_or (or_at s q m) k 0)) (sym i) ∙ h)))
      (λ n. inl (sym (ap (has_bit b) (get_or-set_other s q p _ 0 n)) ∙ h))
      (cases_eq p q))
      (λ l. inl (sym (ap (λ y. has_bit b (get_or y p 0)) (set_past s q _ l)) ∙ h))
      (cases_lt q (length s))

  pub or_at_keeps : (p b : ℕ) → has_bit b (get_or s p 0) ≡ true → has_bit b (get_or (or_at s q m) p 0) ≡ true
  or_at_keeps p b h =
      ⊎_elim
      (λ l. ⊎_elim
      (λ i. ap (λ k. has_bit b (get_or (or_at s q m) k 0)) i ∙ ap (has_bit b) (at_same l) ∙ has_or b (get_or s q 0) m
      ∙ or_left _ _ (ap (λ k. has_bit b (get_or s k 0)) (sym i) ∙ h))
      (λ n. ap (has_bit b) (get_or-set_other s q p _ 0 n) ∙ h)
      (cases_eq p q))
      (λ l. ap (λ y. has_bit b (get_or y p 0)) (set_past s q _ l) ∙ h)
      (cases_lt q (length s))

  pub or_at_has : (b : ℕ) → q < length s → has_bit b m ≡ true → has_bit b (get_or (or_at s q m) q 0) ≡ true
  or_at_has b l h = ap (has_bit b) (at_same l) ∙ has_or b (get_or s q 0) m ∙ or_right _ _ h

  -- where the or changes nothing, the bits of the mask are there already
  pub or_at_rest : (b : ℕ) → or_at s q m ≡ s → q < length s → has_bit b m ≡ true → has_bit b (get_or s q 0) ≡ true
  or_at_rest b e l h = ap (λ y. has_bit b (get_or y q 0)) (sym e) ∙ or_at_has b l h

-- ---- words of 64 bits

-- a row of zeroes has no bits
pub zero_at : (n i : ℕ) → get_or {A = ℕ} (replicate n 0) i 0 ≡ 0
zero_at zero i = refl
zero_at (suc n) zero = refl
zero_at (suc n) (suc i) = zero_at n i

pub words_zero : (n : ℕ) → Words n (replicate n 0)
words_zero n = (length-replicate {A = ℕ} n 0, λ i. subst (λ z. z < 2 ^ 64) (sym (zero_at n i)) (lit< tt))

pub size_below : (n : ℕ) (s : List ℕ) → Words n s → size s ≤ 64 * n
size_below n s w =
    omega (arith, sum_by_le ones 64 s (All-from_get_or (λ x. ones x ≤ 64) s 0 (λ i _. ones-le 64 (get_or s i 0) (w.1 i))), mul_comm (length s) 64, w.0)

pub words_or_at : (n : ℕ) (s : List ℕ) (q m : ℕ) → m < 2 ^ 64 → Words n s → Words n (or_at s q m)
words_or_at n s q m hm w = (length-set s q (bit_or (get_or s q 0) m) ∙ w.0, fit)
  where
    fit : (i : ℕ) → get_or (or_at s q m) i 0 < 2 ^ 64
    fit i =
        ⊎_elim
        (λ l. ⊎_elim
        (λ e. let k : get_or (or_at s q m) q 0 < 2 ^ 64 = rw (at_same s q m l) (or_lt 64 (get_or s q 0) m (w.1 q) hm) in
        subst (λ z. get_or (or_at s q m) z 0 < 2 ^ 64) (sym e) k)
        (λ n. rw (get_or-set_other s q i (bit_or (get_or s q 0) m) 0 n) (w.1 i))
        (cases_eq i q))
        (λ l. rw (set_past s q (bit_or (get_or s q 0) m) l) (w.1 i))
        (cases_lt q (length s))
