-- A scan for the first clash: what a search by calls over the numbers below n finds, and that it is what the scan finds.
use Rattle.std.proofs.Common.{◌≡◌, ℕ, zero, suc, ◌+◌, ◌<◌, ◌≤◌, true, List, [], ◌∷◌, Some, None, Option, option_map, MatchOption, IfSome, IsSomeAnd, ap, ◌∙◌, subst, ⊎_elim, arith}
use Rattle.std.proofs.lemmas.Bool.{cases_eq}
use Rattle.std.specs.declared.ops.Range.{Range}
use Rattle.std.specs.Iterator.Runs.{Run, SomeRun, CallKeepsClosure, AllItemsGive, IsFirstToGive}
use Rattle.std.proofs.iter.runs.Sources.{range_runs}
use Rattle.std.proofs.iter.Yields.{nat_range_steps}
use denote.Param.Members.{Mut, Called}
use Rattle.words.specs.Iter.{counted}
use Rattle.words.proofs.Fixpoint.{counted_still}
use Rattle.grammar.specs.Grammar.{Clash}
use Rattle.conflicts.specs.declared.clashes.ClashFound.{ClashFound}
use Rattle.conflicts.specs.Pairs.{earlier}
use Rattle.conflicts.specs.PairSteps.{Found}

-- ---- a search by calls

-- the first number below n at which P holds of something, or none
abbrev FirstBelow : {B : Type 0} → ℕ → (ℕ → Option B → Type 0) → Option B → Type 0
FirstBelow n P r = MatchOption r ((k : ℕ) → k < n → P k None) (λ y. (i : ℕ) × (i < n) × P i (Some y) × ((k : ℕ) → k < i → P k None))

-- what each call says of what it gives
pub found_says : {B : Type 0} (n : ℕ) (P : Option B → Type 0) → P None → (r : Option B) → FirstBelow n (λ k. P) r → P r
found_says n P none None h = none
found_says n P none (Some y) h = h.2

item_if : (Q : ℕ → Type 0) (o : Option ℕ) (k : ℕ) → option_map (λ y. y) o ≡ Some k → IfSome o Q → Q k
item_if Q None k e h = absurd (cc)
item_if Q (Some x) k e h = let i : x ≡ k = cc in subst Q i h

item_and : (Q : ℕ → Type 0) (o : Option ℕ) (k : ℕ) → option_map (λ y. y) o ≡ Some k → IsSomeAnd o Q → Q k
item_and Q None k e h = absurd h
item_and Q (Some x) k e h = let i : x ≡ k = cc in subst Q i h

module _ {F B : Type 0} {g : Mut F (ℕ × Unit {0}) (Option B)} {s : Range ℕ} {f : F} (n : ℕ) (P : ℕ → Option B → Type 0)
    (from : s.start ≡ 0) (to : s.end ≡ n) (keeps : CallKeepsClosure g f) (says : (k : ℕ) (y : Option B) → k < n → Called g f (k, tt) y f → P k y) where
  module _ (p : Run nat_range_steps) (starts : p.from ≡ s) where
    begins : p.from.start ≡ 0
    begins = ap (λ r. r.start) starts ∙ from

    ends : p.from.end ≡ n
    ends = ap (λ r. r.end) starts ∙ to

    item : (k : ℕ) → k < p.len → option_map (λ y. y) (p.at k) ≡ Some k
    item k l = (range_runs p p.seen).3 k l ∙ ap Some (omega (arith, begins))

    found : (r : Option B) → MatchOption r ((p.whole ≡ true) × AllItemsGive p g f None) (λ y. (i : ℕ) × (i < p.len) × (p.len ≡ i + 1) × IsFirstToGive p g f (Some y) None i) →
        FirstBelow n P r
    found None h = λ k l. says k None l (item_if _ (p.at k) k (item k (omega (arith, (range_runs p p.seen).1 h.0, begins, ends))) (h.1 keeps k))
    found (Some y) h =
        let within : p.len ≤ n = omega (arith, (range_runs p p.seen).0, begins, ends) in
        let q = h.3 keeps in (
          h.0,
          omega (arith, h.1),
          says h.0 (Some y) (omega (arith, h.1)) (item_and _ (p.at h.0) h.0 (item h.0 h.1) q.0),
          λ k l. says k None (omega (arith, h.1)) (item_and _ (p.at k) k (item k (omega (arith, h.1))) (q.1 k l)),
        )

  pub found_below : (r : Option B) → SomeRun nat_range_steps s (λ p. MatchOption r ((p.whole ≡ true) × AllItemsGive p g f None) (λ y. (i : ℕ) × (i < p.len) × (p.len ≡ i + 1) × IsFirstToGive p g f (Some y) None i)) →
      FirstBelow n P r
  found_below r h = found h.0 h.1 r h.2

-- ---- the scan

module _ (f : ℕ → List Clash) where
  abbrev scan : ℕ → List Clash
  scan n = counted n (λ k c. earlier c (f k)) []

  scan_none : (n : ℕ) → ((k : ℕ) → k < n → f k ≡ []) → scan n ≡ []
  unfolding earlier
  scan_none n h = counted_still (λ k c. earlier c (f k)) n [] h

  scan_first : (n k : ℕ) (c : Clash) → k < n → scan k ≡ [] → f k ≡ c ∷ [] → scan n ≡ c ∷ []
  unfolding counted earlier
  scan_first zero k c l e h = absurd (omega arith)
  scan_first (suc n) k c l e h =
      ⊎_elim (λ i. ap (λ j. scan (suc j)) i ∙ ap (λ z. earlier z (f k)) e ∙ h)
      (λ d. ap (λ z. earlier z (f n)) (scan_first n k c (omega arith) e h))
      (cases_eq n k)

  pub scan_of : (n : ℕ) (r : Option ClashFound) → FirstBelow n (λ k y. Found y (f k)) r → Found r (scan n)
  scan_of n None h = scan_none n h
  scan_of n (Some c) h = scan_first n h.0 _ h.1 (scan_none h.0 h.3) h.2
