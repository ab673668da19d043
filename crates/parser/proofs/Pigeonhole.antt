-- The pigeonhole principle: distinct numbers below k are k at most.
use Rattle.std.proofs.Common.{◌≡◌, ℕ, zero, suc, ◌<◌, ◌≤◌, Bool, true, false, eqb, List, [], ◌∷◌, length, sym, refl, subst, arith}
use Rattle.std.proofs.lemmas.Bool.{eqb-true, eqb-false}
use Rattle.grammar.specs.Grammar.{pick}

abbrev pub NotIn : ℕ → List ℕ → Type 0
NotIn c [] = Unit {0}
NotIn c (x ∷ xs) = (c ≡ x → ⊥) × NotIn c xs

abbrev pub Distinct : List ℕ → Type 0
Distinct [] = Unit {0}
Distinct (x ∷ xs) = NotIn x xs × Distinct xs

abbrev pub AllBelow : ℕ → List ℕ → Type 0
AllBelow k [] = Unit {0}
AllBelow k (x ∷ xs) = (x < k) × AllBelow k xs

abbrev without : ℕ → List ℕ → List ℕ
without k [] = []
without k (x ∷ xs) = pick (eqb k x) (without k xs) (x ∷ without k xs)

without_not_in : (k : ℕ) (xs : List ℕ) → NotIn k xs → length xs ≤ length (without k xs)
without_not_in k [] o = omega arith
without_not_in k (x ∷ xs) o = go (eqb k x) refl (without_not_in k xs o.1)
  where
    go : (b : Bool) → eqb k x ≡ b → length xs ≤ length (without k xs) → suc (length xs) ≤ length (pick b (without k xs) (x ∷ without k xs))
    go true e ih = absurd (o.0 (eqb-true k x e))
    go false e ih = omega arith

without_one : (k : ℕ) (xs : List ℕ) → Distinct xs → length xs ≤ suc (length (without k xs))
without_one k [] o = omega arith
without_one k (x ∷ xs) o = go (eqb k x) refl (without_one k xs o.1)
  where
    go : (b : Bool) → eqb k x ≡ b → length xs ≤ suc (length (without k xs)) → suc (length xs) ≤ suc (length (pick b (without k xs) (x ∷ without k xs)))
    go true e ih =
        let h : length xs ≤ length (without k xs) = without_not_in k xs (subst (λ y. NotIn y xs) (sym (eqb-true k x e)) o.0) in omega arith
    go false e ih = omega arith

not_in_without : (c k : ℕ) (xs : List ℕ) → NotIn c xs → NotIn c (without k xs)
not_in_without c k [] o = tt
not_in_without c k (x ∷ xs) o = go (eqb k x) (not_in_without c k xs o.1)
  where
    go : (b : Bool) → NotIn c (without k xs) → NotIn c (pick b (without k xs) (x ∷ without k xs))
    go true ih = ih
    go false ih = (o.0, ih)

distinct_without : (k : ℕ) (xs : List ℕ) → Distinct xs → Distinct (without k xs)
distinct_without k [] o = tt
distinct_without k (x ∷ xs) o = go (eqb k x) (distinct_without k xs o.1)
  where
    go : (b : Bool) → Distinct (without k xs) → Distinct (pick b (without k xs) (x ∷ without k xs))
    go true ih = ih
    go false ih = (not_in_without x k xs o.0, ih)

below_without : (k : ℕ) (xs : List ℕ) → AllBelow (suc k) xs → AllBelow k (without k xs)
below_without k [] o = tt
below_without k (x ∷ xs) o = go (eqb k x) refl (below_without k xs o.1)
  where
    go : (b : Bool) → eqb k x ≡ b → AllBelow k (without k xs) → AllBelow k (pick b (without k xs) (x ∷ without k xs))
    go true e ih = ih
    go false e ih = let n : k ≡ x → ⊥ = eqb-false k x e in (omega arith, ih)

pub pigeonhole : (k : ℕ) (xs : List ℕ) → Distinct xs → AllBelow k xs → length xs ≤ k
pigeonhole zero [] a b = omega arith
pigeonhole zero (x ∷ xs) a b = absurd (omega (arith, b.0))
pigeonhole (suc k) xs a b =
    let h = pigeonhole k (without k xs) (distinct_without k xs a) (below_without k xs b) in
    let j = without_one k xs a in omega arith
