-- A stack with the last time that it had each height: from there the run stays above.
use Rattle.std.proofs.Common.{◌≡◌, ℕ, suc, ◌≤◌, List, [], ◌∷◌, ◌++◌, length, sym, refl, ap, ◌∙◌, subst, subst₂, append_assoc, append-nil, arith}
use Rattle.grammar.specs.Grammar.{Sym, sign, name, Grammar, rule}
use Rattle.grammar.proofs.Lists.{never}
use Rattle.items.specs.Items.{onto, lookahead, Valid}
use Rattle.parser.specs.Runs.{Run, stay, shift, reduce}

-- a run on which each stack but the first has b symbols or more
pub data RunAbove (g : Grammar) (b : ℕ) : List Sym → List ℕ → List Sym → List ℕ → Type 0 where
  stay_above : {γ : List Sym} {ρ : List ℕ} → RunAbove g b γ [] γ ρ
  shift_above : {γ γ' : List Sym} {us ρ : List ℕ} {t r : ℕ} {β : List Sym} {u : ℕ} → Valid g γ r (sign t ∷ β) u → b ≤ suc (length γ) →
      RunAbove g b (sign t ∷ γ) us γ' ρ → RunAbove g b γ (t ∷ us) γ' ρ
  reduce_above : {γ γ' : List Sym} {us ρ : List ℕ} (r : ℕ) (a : List Sym) → Valid g γ r [] (lookahead (us ++ ρ)) → γ ≡ onto (rule g r).right a → b ≤ suc (length a) →
      RunAbove g b (name (rule g r).left ∷ a) us γ' ρ → RunAbove g b γ us γ' ρ

pub run_above_lower : {g : Grammar} {c : ℕ} (b : ℕ) {γ γ' : List Sym} {us ρ : List ℕ} → b ≤ c → RunAbove g c γ us γ' ρ → RunAbove g b γ us γ' ρ
run_above_lower b h stay_above = stay_above
run_above_lower b h (shift_above v k A) = shift_above v (omega arith) (run_above_lower b h A)
run_above_lower b h (reduce_above r a v d k A) = reduce_above r a v d (omega arith) (run_above_lower b h A)

pub run_above_append : {g : Grammar} {b : ℕ} {γ γ₁ γ₂ : List Sym} {us σ : List ℕ} (vs : List ℕ) {ρ : List ℕ} → σ ≡ vs ++ ρ →
    RunAbove g b γ us γ₁ σ → RunAbove g b γ₁ vs γ₂ ρ → RunAbove g b γ (us ++ vs) γ₂ ρ
run_above_append vs e stay_above B = B
run_above_append vs e (shift_above v k A) B = shift_above v k (run_above_append vs e A B)
run_above_append {g} {b} {γ} {us = us} vs {ρ} e (reduce_above r a v d k A) B =
    reduce_above r a (subst (λ l. Valid g γ r [] (lookahead l)) (ap (λ l. us ++ l) e ∙ sym (append_assoc us vs ρ)) v) d k (run_above_append vs e A B)

-- for each symbol of the stack the run since the last time that the stack was as high as what is below it
pub data Ladder (g : Grammar) (ts : List ℕ) : List Sym → List ℕ → Type 0 where
  foot : Ladder g ts [] ts
  rung : {x : Sym} {γ : List Sym} {σ : List ℕ} (us : List ℕ) {ρ : List ℕ} → Ladder g ts γ σ → σ ≡ us ++ ρ → RunAbove g (suc (length γ)) γ us (x ∷ γ) ρ →
      Ladder g ts (x ∷ γ) ρ

-- the ladder up to a, and the run since
pub record Popped (g : Grammar) (ts : List ℕ) (a γ : List Sym) (σ : List ℕ) : Type 0 where
  pub before : List ℕ
  pub shifted : List ℕ
  pub below : Ladder g ts a before
  pub adds : before ≡ shifted ++ σ
  pub way : RunAbove g (suc (length a)) a shifted γ σ

pub pop : {g : Grammar} {ts : List ℕ} {γ : List Sym} {σ : List ℕ} (δ a : List Sym) → γ ≡ onto δ a → Ladder g ts γ σ → Popped g ts a γ σ
pop {g} {ts} {γ} {σ} [] a e L =
    record { before = σ; shifted = []; below = subst (λ x. Ladder g ts x σ) e L; adds = refl; way = subst (λ x. RunAbove g (suc (length a)) a [] x σ) (sym e) stay_above }
pop {g} {ts} {γ} {σ} (x ∷ δ) a e L = go refl (pop δ (x ∷ a) e L).below (pop δ (x ∷ a) e L).adds (pop δ (x ∷ a) e L).way
  where
    go : {f : List Sym} {τ vs : List ℕ} → f ≡ x ∷ a → Ladder g ts f τ → τ ≡ vs ++ σ → RunAbove g (suc (suc (length a))) (x ∷ a) vs γ σ → Popped g ts a γ σ
    go z foot k A = never (cc)
    go {τ = τ} {vs} z (rung {x = y} {γ = γ₁} {σ = σ₁} us M k₁ B) k A =
        let ea : γ₁ ≡ a = cc in
        let B₁ : RunAbove g (suc (length a)) a us (x ∷ a) τ = subst₂ (λ p q. RunAbove g (suc (length p)) p us q τ) ea z B in
        record {
          before = σ₁;
          shifted = us ++ vs;
          below = subst (λ p. Ladder g ts p σ₁) ea M;
          adds = k₁ ∙ ap (λ l. us ++ l) k ∙ sym (append_assoc us vs σ);
          way = run_above_append vs k B₁ (run_above_lower (suc (length a)) (omega arith) A);
        }

pub climb : {g : Grammar} {ts : List ℕ} {γ γ' : List Sym} {σ us ρ rs : List ℕ} → σ ≡ us ++ ρ → Ladder g ts γ σ → Run g γ us γ' ρ rs → Ladder g ts γ' ρ
climb {g} {ts} {γ} e L stay = subst (λ x. Ladder g ts γ x) e L
climb e L (shift {us = us} {ρ = ρ} {t = t} v R) = climb refl (rung (t ∷ []) L e (shift_above v (omega arith) stay_above)) R
climb {g} {ts} {γ} {σ = σ} {us} {ρ} e L (reduce r a v d R) =
    let p = pop (rule g r).right a d L in
    let v₁ : Valid g γ r [] (lookahead σ) = subst (λ l. Valid g γ r [] (lookahead l)) (sym e) v in
    let w : RunAbove g (suc (length a)) a (p.shifted ++ []) (name (rule g r).left ∷ a) σ = run_above_append [] refl p.way (reduce_above r a v₁ d (omega arith) stay_above) in
    climb e (rung (p.shifted ++ []) p.below (p.adds ∙ ap (λ l. l ++ σ) (sym (append-nil p.shifted))) w) R
