-- Words that are lent from the memory and come back changed.
use Rattle.std.proofs.Common.{◌≡◌, ℕ, zero, suc, ◌+◌, ◌-◌, ◌^◌, ◌<◌, ◌≤◌, List, [], ◌∷◌, length, get_or, take, drop, replicate, sym, refl, ap, ◌∙◌, ap₂, arith}
use borrow.Rule.Slice.PartMut.{put_mid}
use Rattle.std.proofs.lemmas.Nat.{pow_pos}
use Rattle.words.specs.Packed.{unpacked, packed}
use Rattle.words.specs.Regions.{region, replaced}
use Rattle.words.proofs.Regions.{put_replaced, region_same, length_region}
use Rattle.words.proofs.Packing.{packed_unpacked}
use Rattle.reader.specs.Memory.{Layout, cleared}

-- words are below b where all of the memory is
below_take : (b n : ℕ) (m : List ℕ) → 0 < b → ((i : ℕ) → get_or m i 0 < b) → (i : ℕ) → get_or (take n m) i 0 < b
below_take b zero m z h i = z
below_take b (suc n) [] z h i = z
below_take b (suc n) (x ∷ m) z h zero = h 0
below_take b (suc n) (x ∷ m) z h (suc i) = below_take b n m z (λ j. h (suc j)) i

below_drop : (b n : ℕ) (m : List ℕ) → 0 < b → ((i : ℕ) → get_or m i 0 < b) → (i : ℕ) → get_or (drop n m) i 0 < b
below_drop b zero m z h i = h i
below_drop b (suc n) [] z h i = z
below_drop b (suc n) (x ∷ m) z h i = below_drop b n m z (λ j. h (suc j)) i

-- a part of the memory that is lent
pub lent_length : (a n b : ℕ) (m : List ℕ) → a + n ≡ b → b ≤ length m → length (take (b - a) (drop a m)) ≡ n
lent_length a n b m k h = let e : b - a ≡ n = omega arith in rw e (length_region a n m (omega arith))

module _ (a n b e : ℕ) (m : List ℕ) (start : b ≡ a) (stop : e ≡ a + n) where
  pub lent_is : take (e - b) (drop b m) ≡ region a n m
  lent_is = let k : e - b ≡ n = omega arith in ap₂ (λ (i j : ℕ). take i (drop j m)) k start

  module _ (ys : List ℕ) where
    abbrev with_lent : List ℕ
    with_lent = put_mid b (e - b) m ys

    lent_as : (zs : List ℕ) → ys ≡ zs → with_lent ≡ replaced a n zs m
    lent_as zs q = put_replaced b n e m ys zs (omega arith) q ∙ ap (λ (k : ℕ). replaced k n zs m) start

    module _ (fits : a + n ≤ length m) (long : length ys ≡ n) where
      lent_back : region a n with_lent ≡ ys
      lent_back = ap (region a n) (lent_as ys refl) ∙ region_same a n m ys fits long

      pub lent_kept : ((i : ℕ) → get_or with_lent i 0 < 2 ^ 64) → with_lent ≡ replaced a n (packed (unpacked (region a n with_lent))) m
      lent_kept small =
          let lt : (i : ℕ) → get_or (region a n with_lent) i 0 < 2 ^ 64 =
          below_take (2 ^ 64) n (drop a with_lent) (pow_pos 64) (below_drop (2 ^ 64) a with_lent (pow_pos 64) small) in
          lent_as ys refl ∙ ap (λ (z : List ℕ). replaced a n z m) (sym lent_back ∙ sym (packed_unpacked (region a n with_lent) lt))

    pub lent_cleared : (k : ℕ) → k ≡ n → ys ≡ replicate k 0 → with_lent ≡ cleared a n m
    lent_cleared k q z = lent_as (replicate n 0) (z ∙ ap (λ (j : ℕ). replicate j 0) q)

-- THE WORDS AT WORK, lent and at 0 again
pub record Worked (l : Layout) (m work m₁ : List ℕ) : Type 0 where
  pub long : length work ≡ l.fuel + l.stack
  pub fuel : l.fuel ≤ length work
  pub clear : m₁ ≡ cleared l.work (l.fuel + l.stack) m

pub worked : (l : Layout) (e : ℕ) (m work₁ : List ℕ) → e ≡ l.work + (l.fuel + l.stack) → e ≤ length m →
    (l.fuel ≤ length (take (e - l.work) (drop l.work m)) → work₁ ≡ replicate (length (take (e - l.work) (drop l.work m))) 0) →
    Worked l m (take (e - l.work) (drop l.work m)) (put_mid l.work (e - l.work) m work₁)
worked l e m work₁ stop fits clear =
    let long = lent_length l.work (l.fuel + l.stack) e m (omega arith) fits in
    let fuel : l.fuel ≤ length (take (e - l.work) (drop l.work m)) = omega (arith, long) in
    record { long = long; fuel = fuel; clear = lent_cleared l.work (l.fuel + l.stack) l.work e m refl stop work₁ _ long (clear fuel) }
