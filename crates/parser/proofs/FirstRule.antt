-- The first rule is reduced once, at the end of a run to accept.
use Rattle.std.proofs.Common.{◌≡◌, ℕ, not, eqb, List, [], ◌∷◌, refl, ap, ◌∙◌, ap₂, inl, inr}
use Rattle.std.proofs.lemmas.Bool.{and_from, cases_eq, ne_eqb}
use Rattle.grammar.specs.Grammar.{every, Sym, name, Grammar, rule}
use Rattle.grammar.proofs.Lists.{never}
use Rattle.grammar.proofs.Sizes.{Sizes}
use Rattle.items.proofs.Items.{valid_rule, none_behind_start}
use Rattle.parser.specs.Runs.{Run, stay, shift, reduce}
use Rattle.parser.specs.DriveStatements.{EndsWithFirst}

module _ (g : Grammar) (s : Sizes g) where
  nothing_behind_start : {γ γ' : List Sym} (a : List Sym) {us ρ rs : List ℕ} → γ ≡ name 0 ∷ a → Run g γ us γ' ρ rs → rs ≡ []
  nothing_behind_start a e stay = refl
  nothing_behind_start a e (shift v R) = absurd (none_behind_start g s a e v)
  nothing_behind_start a e (reduce r b v d R) = absurd (none_behind_start g s a e v)

  -- another rule before
  one_before : (r : ℕ) (rs : List ℕ) → (r ≡ 0 → ⊥) → EndsWithFirst rs → EndsWithFirst (r ∷ rs)
  unfolding every
  one_before r rs n (qs, e, h) = (r ∷ qs, ap (λ x. r ∷ x) e, and_from (not (eqb r 0)) (every (λ r. not (eqb r 0)) qs) (ap not (ne_eqb r 0 n)) h)

  pub ends_with_first : {γ γ' : List Sym} {us ρ rs : List ℕ} → (γ ≡ name 0 ∷ [] → ⊥) → γ' ≡ name 0 ∷ [] → Run g γ us γ' ρ rs → EndsWithFirst rs
  unfolding every
  ends_with_first n e stay = absurd (n e)
  ends_with_first n e (shift v R) = ends_with_first (λ k. never (cc)) e R
  ends_with_first {us = us} {ρ} n e (reduce {rs = rs} r a v d R) = elim (cases_eq r 0) [
    | inl z ↦
        let l : (rule g r).left ≡ 0 = ap (λ k. (rule g k).left) z ∙ s.zero_left in
        let none : rs ≡ [] = nothing_behind_start a (ap (λ k. name k ∷ a) l) R in
        ([], ap₂ (λ x xs. x ∷ xs) z none, refl)
    | inr k ↦
        one_before r rs k (ends_with_first (λ i. k (s.zero_only r (valid_rule s.rules v) (let z : (rule g r).left ≡ 0 = cc in z))) e R)
  ]
