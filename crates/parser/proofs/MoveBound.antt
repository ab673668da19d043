-- How many moves there can be: no configuration comes twice, and there are finitely many.
use Rattle.std.proofs.Common.{◌≡◌, ℕ, suc, ◌+◌, ◌*◌, ◌^◌, ◌<◌, ◌≤◌, List, [], ◌∷◌, ◌++◌, length, sym, refl, ap, ◌∙◌, subst, append_assoc, arith, length-append}
use Rattle.std.proofs.lemmas.List.{nil_from_length}
use Rattle.grammar.specs.Grammar.{Sym, sign, Grammar, AllUseful}
use Rattle.grammar.proofs.Sizes.{Sizes}
use Rattle.items.specs.Items.{lookahead, Valid}
use Rattle.conflicts.specs.Conflicts.{NoConflict}
use Rattle.parser.specs.Runs.{Run, stay, shift, reduce}
use Rattle.parser.proofs.Runs.{run_push_shift, run_push_reduce}
use Rattle.parser.proofs.Pigeonhole.{NotIn, Distinct, pigeonhole}
use Rattle.parser.proofs.StackCodes.{stack_code, stack_code_once, stack_code_below, pair_once}
use Rattle.parser.proofs.StackBound.{stack_bounded}
use Rattle.parser.proofs.Reached.{reached_stackable}
use Rattle.parser.proofs.NoRepeat.{no_repeat}
use Rattle.parser.proofs.Configurations.{Bounded, BoundedRun, stay_bounded, shift_bounded, reduce_bounded, configuration, visited, length_visited, visited_below}

module _ (g : Grammar) (s : Sizes g) (once : NoConflict g) where
  -- a run of one move or more leads to another number
  new_here : {γ₀ γ : List Sym} {σ τ vs qs : List ℕ} (l : ℕ) → Bounded l γ₀ → Bounded l γ → σ ≡ τ → Run g γ₀ vs γ σ qs → 0 < length vs + length qs →
      configuration l γ₀ (vs ++ σ) ≡ configuration l γ τ → ⊥
  new_here {γ₀} {γ} {σ} {τ} {vs} {qs} l o o₁ e P h k =
      let p = pair_once (65 ^ l) (stack_code γ₀) (stack_code γ) (length (vs ++ σ)) (length τ) (stack_code_below γ₀ l o.small o.short) (stack_code_below γ l o₁.small o₁.short) k in
      let e₁ : γ ≡ γ₀ = sym (stack_code_once γ₀ γ o.small o₁.small p.0) in
      let e₂ : length vs ≡ 0 = omega (arith, p.1, length-append vs σ, ap length e) in
      no_repeat g s once e₁ (nil_from_length vs e₂) (omega arith) P

  new_visited : (l c : ℕ) {γ₀ γ γ' : List Sym} {σ vs qs us ρ rs : List ℕ} → c ≡ configuration l γ₀ (vs ++ σ) → Bounded l γ₀ → σ ≡ us ++ ρ → Run g γ₀ vs γ σ qs →
      0 < length vs + length qs → (W : BoundedRun g l γ us γ' ρ rs) → NotIn c (visited W)
  unfolding visited
  new_visited l c k o e P h (stay_bounded o₁) = (λ f. new_here l o o₁ e P h (sym k ∙ f), tt)
  new_visited l c {γ₀} {γ} {σ = σ} {vs} {qs} {us} {ρ} k o e P h (shift_bounded {us = us₁} {t = t} o₁ v W) =
      let P₁ : Run g γ₀ (vs ++ t ∷ []) (sign t ∷ γ) (us₁ ++ ρ) qs = run_push_shift t (us₁ ++ ρ) e P v in
      let k₁ : c ≡ configuration l γ₀ (vs ++ t ∷ [] ++ (us₁ ++ ρ)) = k ∙ ap (configuration l γ₀) (ap (λ x. vs ++ x) e ∙ sym (append_assoc vs (t ∷ []) (us₁ ++ ρ))) in
      (λ f. new_here l o o₁ e P h (sym k ∙ f), new_visited l c k₁ o refl P₁ (simp length-append (omega arith)) W)
  new_visited l c {γ₀} {γ} {σ = σ} {vs} {qs} {us} {ρ} k o e P h (reduce_bounded r a o₁ v d W) =
      let v₁ : Valid g γ r [] (lookahead σ) = subst (λ x. Valid g γ r [] (lookahead x)) (sym e) v in
      (λ f. new_here l o o₁ e P h (sym k ∙ f), new_visited l c k o e (run_push_reduce r a P v₁ d) (simp length-append (omega arith)) W)

  visited_distinct : (l : ℕ) {γ γ' : List Sym} {us ρ rs : List ℕ} (W : BoundedRun g l γ us γ' ρ rs) → Distinct (visited W)
  unfolding visited
  visited_distinct l (stay_bounded o) = (tt, tt)
  visited_distinct l {γ} {us = us} {ρ} (shift_bounded {us = us₁} {t = t} o v W) =
      (new_visited l (configuration l γ (us ++ ρ)) refl o refl (shift v stay) (omega arith) W, visited_distinct l W)
  visited_distinct l {γ} {us = us} {ρ} (reduce_bounded r a o v d W) =
      (new_visited l (configuration l γ (us ++ ρ)) refl o refl (reduce r a v d stay) (omega arith) W, visited_distinct l W)

  module _ (useful : AllUseful g) where
    bounded : {γ : List Sym} {vs σ qs : List ℕ} (n : ℕ) → length vs ≤ n → Run g [] vs γ σ qs → Bounded (128 * (n + 1)) γ
    bounded {γ} {vs} {σ} n h P =
        let k = stack_bounded g s useful once P in
        record { small = reached_stackable g s P; short = omega arith }

    bounded_run : {γ γ' : List Sym} {vs σ qs us ρ rs : List ℕ} (n : ℕ) → length vs + length σ ≤ n → σ ≡ us ++ ρ → Run g [] vs γ σ qs → Run g γ us γ' ρ rs →
        BoundedRun g (128 * (n + 1)) γ us γ' ρ rs
    bounded_run n h e P stay = stay_bounded (bounded n (omega arith) P)
    bounded_run {γ} {vs = vs} {σ} {qs} {us} {ρ} n h e P (shift {us = us₁} {t = t} v R) =
        shift_bounded (bounded n (omega arith) P) v (bounded_run n (omega (arith, ap length e, length-append vs (t ∷ []))) refl (run_push_shift t (us₁ ++ ρ) e P v) R)
    bounded_run {γ} {vs = vs} {σ} {qs} {us} {ρ} n h e P (reduce r a v d R) =
        let v₁ : Valid g γ r [] (lookahead σ) = subst (λ x. Valid g γ r [] (lookahead x)) (sym e) v in
        reduce_bounded r a (bounded n (omega arith) P) v d (bounded_run n h e (run_push_reduce r a P v₁ d) R)

    pub moves_bounded : {γ : List Sym} {us ρ rs : List ℕ} (n : ℕ) → length (us ++ ρ) ≤ n → Run g [] us γ ρ rs →
        length us + length rs < 65 ^ (128 * (n + 1)) * suc n
    moves_bounded {γ} {us} {ρ} {rs} n h R =
        let W = bounded_run n (omega arith) refl stay R in
        let k = pigeonhole (65 ^ (128 * (n + 1)) * suc n) (visited W) (visited_distinct (128 * (n + 1)) W) (visited_below n h W) in
        omega (arith, k, length_visited W)
