-- What a chain over the numbers below n comes to, said of the numbers and not of a list.
use Rattle.std.proofs.Common.{◌≡◌, ℕ, ◌+◌, ◌<◌, ◌≤◌, Bool, true, false, List, [], ◌∷◌, ◌++◌, length, get_or, Option, sym, refl, ap, ◌∙◌, subst, zero-add, None, Some, arith}
use denote.Param.Members.{Mut}
use denote.Ref.{Bor}
use Rattle.std.specs.declared.ops.Range.{Range}
use Rattle.std.specs.Bool.{MatchBool}
use Rattle.std.specs.Option.{MatchOption}
use Rattle.std.specs.Fn.{Called, CalledAt}
use Rattle.std.specs.Iterator.{ChecksAny, FindsItem, FoldsItems}
use Rattle.std.specs.List.{range_with_len, HoldsAt, AllWithin}
use Rattle.std.proofs.iter.Yields.{nat_range_steps}
use Rattle.std.proofs.lemmas.Fn.{fold_over}
use Rattle.std.proofs.lemmas.List.{length-append}
use Rattle.std.proofs.lemmas.Iterator.{YieldsList-from_range, cases_from_any, first_from_Range}
use Rattle.std.proofs.lemmas.List.FromFn.{length-range_with_len, get_or-range_with_len}
use Rattle.std.proofs.Math.ListN.{get_or-append}
use Rattle.std.proofs.Math.Seq.{get_or-append_seam}

abbrev below : ℕ → Range ℕ
below n = record { start = 0; end = n }

-- some number below n passes the test; or none does
abbrev pub AnyBelow : ℕ → (ℕ → Bool) → Bool → Type 0
AnyBelow n test r = MatchBool r ((k : ℕ) × (k < n) × (true ≡ test k)) ((k : ℕ) → k < n → false ≡ test k)

-- the first number below n that passes it; or none does
abbrev pub FirstBelow : ℕ → (ℕ → Bool) → Option ℕ → Type 0
FirstBelow n test r = MatchOption r ((k : ℕ) → k < n → false ≡ test k) (λ i. (i < n) × (true ≡ test i) × ((k : ℕ) → k < i → false ≡ test k))

module _ {F : Type 0} (n : ℕ) (test : ℕ → Bool) (u : Range ℕ) (f : F) where
  abbrev Says : Bool → ℕ → Type 0
  Says b k = k < n → b ≡ test k

  pub any_below : {g : Mut F (ℕ × Unit {0}) Bool} (r : Bool) → ChecksAny nat_range_steps g (below n) f r u →
      ((x : ℕ) (b : Bool) (q : F) → Called g f (x, tt) b q → (q ≡ f) × (x < n → b ≡ test x)) → AnyBelow n test r
  any_below r ran h =
      told r (cases_from_any u f r (Says true) (Says false) ran (YieldsList-from_range 0 n n refl (omega arith)) (λ x q k. (h x true q k).1) (λ x q k. h x false q k))
    where
      all : List ℕ
      all = range_with_len 0 n

      is : {b : Bool} (k : ℕ) → k < n → HoldsAt (Says b) all k → b ≡ test k
      is {b} k l m = subst (Says b) (get_or-range_with_len 0 n k 0 l ∙ zero-add k) (m 0) l

      told : (r : Bool) → MatchBool r ((k : ℕ) × (k < length all) × HoldsAt (Says true) all k) (AllWithin (Says false) all 0 (length all)) → AnyBelow n test r
      told true m = let l : m.0 < n = omega (arith, m.1, length-range_with_len 0 n) in (m.0, l, is m.0 l m.2)
      told false m = λ k l. is k l (λ d. m k d (omega arith) (omega (arith, l, length-range_with_len 0 n)))

  pub first_below : {g : Mut F (Bor ℕ × Unit {0}) Bool} (r : Option ℕ) → FindsItem nat_range_steps g (below n) f r u →
      ((x : ℕ) (b : Bool) (q : F) → CalledAt g f x b q → (q ≡ f) × (x < n → b ≡ test x)) → FirstBelow n test r
  first_below r ran h = told r (first_from_Range (below n) u f r (Says true) (Says false) ran (λ x q k. (h x true q k).1) (λ x q k. h x false q k))
    where
      told : (r : Option ℕ) → MatchOption r ((k : ℕ) → 0 ≤ k → k < n → Says false k) (λ i. (0 ≤ i) × (i < n) × Says true i × ((k : ℕ) → 0 ≤ k → k < i → Says false k)) →
          FirstBelow n test r
      told None m = λ k l. m k (omega arith) l l
      told (Some i) m = (m.1, m.2 m.1, λ k l. m.3 k (omega arith) l (omega (arith, m.1)))

-- J holds of the total behind the numbers below k
module _ {F C : Type 0} (n : ℕ) (J : ℕ → C → Type 0) (f : F) where
  pub fold_below : {g : Mut F (C × (ℕ × Unit {0})) C} (init r : C) → FoldsItems nat_range_steps g (below n) f init r → J 0 init →
      ((a : C) (x : ℕ) (b : C) (q : F) → Called g f (a, (x, tt)) b q → (q ≡ f) × (x < n → J x a → J (x + 1) b)) → J n r
  fold_below {g} init r ran start h =
      let all = range_with_len 0 n in
      let long : length all ≡ n = length-range_with_len 0 n in
      subst (λ k. J k r) long
      (fold_over nat_range_steps (λ x. x) g Keeps f (λ ys a x b q i k. ((λ up. push ys a x b i (h a x b q k).1 up), (h a x b q k).0)) (below n) all init r
      (YieldsList-from_range 0 n n refl (omega arith)).runs (λ _. start) ran ((λ k l. omega (arith, get_or-range_with_len 0 n k 0 (omega arith))), omega arith))
    where
      -- the numbers come one by one, and no more than n
      Up : List ℕ → Type 0
      Up ys = ((k : ℕ) → k < length ys → get_or ys k 0 ≡ k) × (length ys ≤ n)

      Keeps : List ℕ → C → Type 0
      Keeps ys a = Up ys → J (length ys) a

      push : (ys : List ℕ) (a : C) (x : ℕ) (b : C) → Keeps ys a → (x < n → J x a → J (x + 1) b) → Up (ys ++ x ∷ []) → J (length (ys ++ x ∷ [])) b
      push ys a x b i step up =
          let more : length (ys ++ x ∷ []) ≡ length ys + 1 = length-append ys (x ∷ []) in
          let e : x ≡ length ys = sym (get_or-append_seam ys x [] 0) ∙ up.0 (length ys) (omega arith) in
          let before : Up ys = ((λ k l. sym (get_or-append ys (x ∷ []) 0 k l) ∙ up.0 k (omega arith)), omega (arith, up.1)) in
          subst (λ k. J k b) (ap (λ k. k + 1) e ∙ sym more) (step (omega (arith, up.1)) (subst (λ k. J k a) (sym e) (i before)))
