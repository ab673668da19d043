-- Regions of one memory, lent and written back.
--     put_back, put_replaced      what a loan of `memory[a..e]` leaves
--     length_region, length_replaced, region_same, region_below, region_above      lengths, and what is read afterwards
--     get_region, get_inside, get_below, get_above      the same by places
--     replaced_own, replaced_again, replaced_apart      a region put back as it was; twice; two regions in either order
use Rattle.std.proofs.Common.{◌≡◌, ℕ, ◌+◌, ◌-◌, ◌<◌, ◌≤◌, List, ◌++◌, length, get_or, take, drop, sym, ap, ◌∙◌, subst, ap₂, ⊎_elim, arith, rules}
use borrow.Rule.Slice.PartMut.{put_mid}
use Rattle.std.proofs.lemmas.List.{drop-drop, drop_at, take_at, length-take-le, same_lists, places}
use Rattle.std.proofs.lemmas.Bool.{cases_lt}
use Rattle.words.specs.Regions.{region, replaced}

pub put_back : {X : Type 0} (a e : ℕ) (m ys zs : List X) → a ≤ e → ys ≡ zs → put_mid a (e - a) m ys ≡ take a m ++ (zs ++ drop e m)
put_back a e m ys zs h q =
    let s : a + (e - a) ≡ e = omega arith in
    ap (λ z. take a m ++ (ys ++ z)) (drop-drop (e - a) a m) ∙ ap (λ k. take a m ++ (ys ++ drop k m)) s ∙ ap (λ z. take a m ++ (z ++ drop e m)) q

-- a loan of the n words from a on
pub put_replaced : (a n e : ℕ) (m ys zs : List ℕ) → a + n ≡ e → ys ≡ zs → put_mid a (e - a) m ys ≡ replaced a n zs m
put_replaced a n e m ys zs h q = let k : e - a ≡ n = omega arith in ap₂ (λ j z. replaced a j z m) k q

pub length_region : (a n : ℕ) (m : List ℕ) → a + n ≤ length m → length (region a n m) ≡ n
length_region a n m h = search (rules, places)

pub get_region : (a n : ℕ) (m : List ℕ) (i d : ℕ) → i < n → get_or (region a n m) i d ≡ get_or m (a + i) d
get_region a n m i d h = search (rules, places)

module _ (a n : ℕ) (m ys : List ℕ) (fits : a + n ≤ length m) (long : length ys ≡ n) where
  pub length_replaced : length (replaced a n ys m) ≡ length m
  length_replaced = search (rules, places)

  pub region_same : region a n (replaced a n ys m) ≡ ys
  region_same = same_lists _ _ (search (rules, places)) (λ k d o. grind (arith, places))

  pub region_below : (b k : ℕ) → b + k ≤ a → region b k (replaced a n ys m) ≡ region b k m
  region_below b k h = same_lists _ _ (search (rules, places)) (λ i d o. grind (arith, places))

  pub region_above : (b k : ℕ) → a + n ≤ b → region b k (replaced a n ys m) ≡ region b k m
  region_above b k h = same_lists _ _ (search (rules, places)) (λ i d o. grind (arith, places))

  pub get_below : (i d : ℕ) → i < a → get_or (replaced a n ys m) i d ≡ get_or m i d
  get_below i d h = search (rules, places)

  pub get_above : (i d : ℕ) → a + n ≤ i → get_or (replaced a n ys m) i d ≡ get_or m i d
  get_above i d h = search (rules, places)

  pub get_inside : (i d : ℕ) → i < n → get_or (replaced a n ys m) (a + i) d ≡ get_or ys i d
  get_inside i d h = search (rules, places)

  length_front : length (take a m) ≡ a
  length_front = length-take-le a m (omega arith)

  front : take a (replaced a n ys m) ≡ take a m
  front = take_at (take a m) (ys ++ drop n (drop a m)) a length_front

  back : drop n (drop a (replaced a n ys m)) ≡ drop n (drop a m)
  back = ap (drop n) (drop_at (take a m) (ys ++ drop n (drop a m)) a length_front) ∙ drop_at ys (drop n (drop a m)) n long

  pub replaced_again : (zs : List ℕ) → replaced a n zs (replaced a n ys m) ≡ replaced a n zs m
  replaced_again zs = ap₂ (λ x y. x ++ (zs ++ y)) front back

pub replaced_own : (a n : ℕ) (m : List ℕ) → replaced a n (region a n m) m ≡ m
replaced_own a n m = same_lists _ _ (search (rules, places)) (λ k d o. grind (arith, places))

-- two regions apart: the lower first, or the upper
module _ (a n b k : ℕ) (m ys zs : List ℕ) (apart : a + n ≤ b) (fits : b + k ≤ length m) (ny : length ys ≡ n) (nz : length zs ≡ k) where
  abbrev lower : List ℕ
  lower = replaced a n ys m

  abbrev upper : List ℕ
  upper = replaced b k zs m

  fits_a : a + n ≤ length m
  fits_a = omega arith

  fits_lower : b + k ≤ length lower
  fits_lower = omega (arith, length_replaced a n m ys fits_a ny)

  fits_upper : a + n ≤ length upper
  fits_upper = omega (arith, length_replaced b k m zs fits nz)

  -- in the lower region, in the upper, and outside of both
  in_lower : (j d : ℕ) → j < n → get_or (replaced b k zs lower) (a + j) d ≡ get_or (replaced a n ys upper) (a + j) d
  in_lower j d h =
      get_below b k lower zs fits_lower nz (a + j) d (omega arith) ∙ get_inside a n m ys fits_a ny j d h
      ∙ sym (get_inside a n upper ys fits_upper ny j d h)

  in_upper : (j d : ℕ) → j < k → get_or (replaced b k zs lower) (b + j) d ≡ get_or (replaced a n ys upper) (b + j) d
  in_upper j d h =
      get_inside b k lower zs fits_lower nz j d h ∙ sym (get_inside b k m zs fits nz j d h)
      ∙ sym (get_above a n upper ys fits_upper ny (b + j) d (omega arith))

  same_place : (i d : ℕ) → get_or (replaced b k zs lower) i d ≡ get_or (replaced a n ys upper) i d
  same_place i d =
      ⊎_elim
      (λ x. get_below b k lower zs fits_lower nz i d (omega arith) ∙ get_below a n m ys fits_a ny i d x
      ∙ sym (get_below b k m zs fits nz i d (omega arith)) ∙ sym (get_below a n upper ys fits_upper ny i d x))
      (λ x. ⊎_elim
      (λ y. let e : a + (i - a) ≡ i = omega arith in
      subst (λ j. get_or (replaced b k zs lower) j d ≡ get_or (replaced a n ys upper) j d) e (in_lower (i - a) d (omega arith)))
      (λ y. ⊎_elim
      (λ z. get_below b k lower zs fits_lower nz i d z ∙ get_above a n m ys fits_a ny i d y
      ∙ sym (get_below b k m zs fits nz i d z) ∙ sym (get_above a n upper ys fits_upper ny i d y))
      (λ z. ⊎_elim
      (λ w. let e : b + (i - b) ≡ i = omega arith in
      subst (λ j. get_or (replaced b k zs lower) j d ≡ get_or (replaced a n ys upper) j d) e (in_upper (i - b) d (omega arith)))
      (λ w. get_above b k lower zs fits_lower nz i d w ∙ get_above a n m ys fits_a ny i d y
      ∙ sym (get_above b k m zs fits nz i d w) ∙ sym (get_above a n upper ys fits_upper ny i d y))
      (cases_lt i (b + k)))
      (cases_lt i b))
      (cases_lt i (a + n)))
      (cases_lt i a)

  pub replaced_apart : replaced b k zs lower ≡ replaced a n ys upper
  replaced_apart =
      same_lists _ _
      (length_replaced b k lower zs fits_lower nz ∙ length_replaced a n m ys fits_a ny
      ∙ sym (length_replaced b k m zs fits nz) ∙ sym (length_replaced a n upper ys fits_upper ny))
      (λ i d _. same_place i d)
