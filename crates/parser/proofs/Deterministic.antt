-- Without conflicts there is one move at most: a run is the beginning of every run from there that gets stuck.
use Rattle.std.proofs.Common.{◌≡◌, ℕ, List, [], ◌∷◌, ◌++◌, sym, refl, ap, ◌∙◌, subst, ap₂}
use Rattle.grammar.specs.Grammar.{Sym, sign, name, Grammar, rule}
use Rattle.items.specs.Items.{onto, lookahead, Valid}
use Rattle.items.proofs.Stacks.{onto_cancel}
use Rattle.conflicts.specs.Conflicts.{NoConflict}
use Rattle.parser.specs.Runs.{Run, stay, shift, reduce}
use Rattle.parser.specs.Moves.{Stuck, BeginningOf}

module _ (g : Grammar) (once : NoConflict g) where
  pub same_reduce : {γ : List Sym} (t r q : ℕ) (a b : List Sym) → Valid g γ r [] t → γ ≡ onto (rule g r).right a →
      Valid g γ q [] t → γ ≡ onto (rule g q).right b → name (rule g r).left ∷ a ≡ name (rule g q).left ∷ b
  same_reduce t r q a b v e w d =
      let p : r ≡ q = once.reduce_reduce v w in
      let e₁ : onto (rule g q).right a ≡ onto (rule g q).right b = ap (λ k. onto (rule g k).right a) (sym p) ∙ (sym e ∙ d) in
      let f : a ≡ b = onto_cancel (rule g q).right a b e₁ in cc

  pub beginning_of_stuck : {γ γ₁ γ₂ : List Sym} {us vs ρ₁ ρ₂ rs qs : List ℕ} → us ++ ρ₁ ≡ vs ++ ρ₂ → Stuck g γ₁ ρ₁ →
      Run g γ us γ₁ ρ₁ rs → Run g γ vs γ₂ ρ₂ qs → BeginningOf g vs qs γ₂ us rs γ₁ ρ₁
  beginning_of_stuck {us = us} {rs = rs} e s R stay = record { shifted = us; reduced = rs; shifts_so = refl; reduces_so = refl; run = R }
  beginning_of_stuck {ρ₂ = ρ₂} e s stay (shift {us = vs} {t = t} {r = r} {β = β} {u = u} w S) = absurd (s.no_shift t (vs ++ ρ₂) e (r, β, u, w))
  beginning_of_stuck {γ} {γ₁} {γ₂} {ρ₁ = ρ₁} {ρ₂} e s (shift {us = us} {rs = rs} {t = t} v R) (shift {us = vs} {rs = qs} {t = t₁} w S) =
      let z : t₁ ≡ t = cc in
      let e₁ : us ++ ρ₁ ≡ vs ++ ρ₂ = cc in
      let f = beginning_of_stuck e₁ s R (subst (λ k. Run g (sign k ∷ γ) vs γ₂ ρ₂ qs) z S) in
      record { shifted = f.shifted; reduced = f.reduced; shifts_so = ap₂ (λ x y. x ∷ y) (sym z) f.shifts_so; reduces_so = f.reduces_so; run = f.run }
  beginning_of_stuck {γ} e s (reduce r a v d R) (shift w S) = absurd (once.shift_reduce (subst (λ l. Valid g γ r [] (lookahead l)) e v) w)
  beginning_of_stuck {γ} e s stay (reduce r a w d S) = absurd (s.no_reduce r (subst (λ l. Valid g γ r [] (lookahead l)) (sym e) w))
  beginning_of_stuck {γ} e s (shift v R) (reduce r a w d S) = absurd (once.shift_reduce (subst (λ l. Valid g γ r [] (lookahead l)) (sym e) w) v)
  beginning_of_stuck {γ} {γ₁} {γ₂} {us} {vs} {ρ₁} {ρ₂} e s (reduce {rs = rs} r a v d R) (reduce {rs = qs} r₁ a₁ w d₁ S) =
      let w₁ : Valid g γ r₁ [] (lookahead (us ++ ρ₁)) = subst (λ l. Valid g γ r₁ [] (lookahead l)) (sym e) w in
      let p : r ≡ r₁ = once.reduce_reduce v w₁ in
      let k = same_reduce (lookahead (us ++ ρ₁)) r₁ r a₁ a w₁ d₁ v d in
      let f = beginning_of_stuck e s R (subst (λ x. Run g x vs γ₂ ρ₂ qs) k S) in
      record { shifted = f.shifted; reduced = f.reduced; shifts_so = f.shifts_so; reduces_so = ap₂ (λ x y. x ∷ y) p f.reduces_so; run = f.run }
