-- The rules told one by one are those that the run to accept reduces.
use Rattle.std.proofs.Common.{◌≡◌, ℕ, zero, suc, ◌<◌, ◌≤◌, true, List, [], ◌∷◌, ◌++◌, length, drop, sym, refl, ap, ◌∙◌, subst, append-nil, arith, length-append}
use Rattle.grammar.specs.Grammar.{backwards, Sym, sign, name, Grammar, rule, a_grammar, AllUseful, Makes}
use Rattle.grammar.proofs.Sizes.{sizes}
use Rattle.items.specs.Items.{lookahead, Valid}
use Rattle.conflicts.specs.Conflicts.{NoConflict}
use Rattle.parser.specs.Runs.{Run, stay, shift, reduce}
use Rattle.parser.specs.Moves.{Stuck}
use Rattle.parser.specs.Drive.{Config, Moved, shifted, reduced, stuck, moved, start_config, ends, none, on_advanced, advance_for, advance_of}
use Rattle.parser.specs.DriveStatements.{most_symbols, Kept, Tells}
use Rattle.parser.proofs.Runs.{accepts_made}
use Rattle.parser.proofs.Handles.{drop_onto}
use Rattle.parser.proofs.Reached.{accepted_stuck}
use Rattle.parser.proofs.Stands.{Stands, start_stands}
use Rattle.parser.proofs.DriveMoves.{Move, by_shift, by_reduce, by_none, move}

-- told within n moves, and then on
abbrev TellsWithin : Grammar → List ℕ → ℕ → Config → List ℕ → Type 0
TellsWithin g ts n c [] = advance_for n g ts c ≡ none
TellsWithin g ts n c (r ∷ rs) = (d : Config) × (advance_for n g ts c ≡ ends r d) × Kept g d × Tells g ts d rs

tells_within : (g : Grammar) (ts : List ℕ) (c : Config) (rs : List ℕ) → TellsWithin g ts (suc (length ts)) c rs → Tells g ts c rs
unfolding Tells advance_of
tells_within g ts c [] h = h
tells_within g ts c (r ∷ rs) h = h

tells_shifted : (g : Grammar) (ts : List ℕ) (n : ℕ) (c d : Config) (rs : List ℕ) → moved g ts c ≡ shifted d → TellsWithin g ts n d rs → TellsWithin g ts (suc n) c rs
unfolding advance_for on_advanced
tells_shifted g ts n c d [] e h = ap (on_advanced (advance_for n g ts)) e ∙ h
tells_shifted g ts n c d (r ∷ rs) e h = (h.0, ap (on_advanced (advance_for n g ts)) e ∙ h.1, h.2, h.3)

module _ (g : Grammar) (fits : a_grammar g ≡ true) (useful : AllUseful g) (once : NoConflict g) (ts : List ℕ) where
  -- without conflicts the move is the run's
  module _ {c : Config} {γ : List Sym} {us ρ rs : List ℕ} (st : Stands g ts c γ us ρ rs) where
    moved_shift : (t : ℕ) (σ : List ℕ) {q : ℕ} {β : List Sym} {u : ℕ} → ρ ≡ t ∷ σ → Valid g γ q (sign t ∷ β) u →
        (d : Config) × (moved g ts c ≡ shifted d) × Stands g ts d (sign t ∷ γ) (us ++ t ∷ []) σ rs
    moved_shift t σ {q} {β} {u} e v = go (moved g ts c) refl (move g fits useful once ts st)
      where
        go : (m : Moved) → moved g ts c ≡ m → Move g ts γ us ρ rs m → (d : Config) × (moved g ts c ≡ shifted d) × Stands g ts d (sign t ∷ γ) (us ++ t ∷ []) σ rs
        go _ i (by_shift t₁ σ₁ d e₁ can st₁) =
            let z : t₁ ≡ t = cc in
            let z₁ : σ₁ ≡ σ = cc in
            (d, i, subst (λ y. Stands g ts d (sign t ∷ γ) (us ++ t ∷ []) y rs) z₁ (subst (λ x. Stands g ts d (sign x ∷ γ) (us ++ x ∷ []) σ₁ rs) z st₁))
        go _ i (by_reduce r d w st₁) = absurd (once.shift_reduce (subst (λ x. Valid g γ r [] (lookahead x)) e w) v)
        go _ i (by_none k) = absurd (k.no_shift t σ e (q, β, u, v))

    moved_reduce : (r : ℕ) → Valid g γ r [] (lookahead ρ) →
        (d : Config) × (moved g ts c ≡ reduced r d) × Stands g ts d (name (rule g r).left ∷ drop (length (rule g r).right) γ) us ρ (rs ++ r ∷ [])
    moved_reduce r v = go (moved g ts c) refl (move g fits useful once ts st)
      where
        go : (m : Moved) → moved g ts c ≡ m → Move g ts γ us ρ rs m →
            (d : Config) × (moved g ts c ≡ reduced r d) × Stands g ts d (name (rule g r).left ∷ drop (length (rule g r).right) γ) us ρ (rs ++ r ∷ [])
        go _ i (by_shift t σ d e can st₁) = absurd (once.shift_reduce (subst (λ x. Valid g γ r [] (lookahead x)) e v) can.3)
        go _ i (by_reduce q d w st₁) =
            let z : q ≡ r = once.reduce_reduce w v in
            (d, i ∙ ap (λ x. reduced x d) z, subst (λ x. Stands g ts d (name (rule g x).left ∷ drop (length (rule g x).right) γ) us ρ (rs ++ x ∷ [])) z st₁)
        go _ i (by_none k) = absurd (k.no_reduce r v)

    moved_none : Stuck g γ ρ → moved g ts c ≡ stuck
    moved_none k = go (moved g ts c) refl (move g fits useful once ts st)
      where
        go : (m : Moved) → moved g ts c ≡ m → Move g ts γ us ρ rs m → moved g ts c ≡ stuck
        go _ i (by_shift t σ d e can st₁) = absurd (k.no_shift t σ e can)
        go _ i (by_reduce q d w st₁) = absurd (k.no_reduce q w)
        go _ i (by_none k₁) = i

  tells_run : {γ γ' : List Sym} {vs σ qs : List ℕ} (n : ℕ) {c : Config} {us ρ rs : List ℕ} → length vs < n → ρ ≡ vs → σ ≡ [] → γ' ≡ name 0 ∷ [] →
      Stands g ts c γ us ρ rs → Run g γ vs γ' σ qs → TellsWithin g ts n c qs
  unfolding advance_for on_advanced
  tells_run zero h e z a st R = absurd (omega arith)
  tells_run (suc n) {ρ = ρ} h e z a st stay = ap (on_advanced (advance_for n g ts)) (moved_none st (accepted_stuck g (sizes g fits) ρ a))
  tells_run (suc n) {c} h e z a st (shift {us = vs} {rs = qs} {t = t} v R) =
      let p = moved_shift st t vs e v in
      tells_shifted g ts n c p.0 qs p.1 (tells_run n (omega arith) refl z a p.2 R)
  tells_run {γ} {vs = vs} {σ} (suc n) {c} {us} {ρ} {rs} h e z a st (reduce {rs = qs} r b v d R) =
      let sees : lookahead (vs ++ σ) ≡ lookahead ρ = ap (λ x. lookahead (vs ++ x)) z ∙ ap lookahead (append-nil vs ∙ sym e) in
      let p = moved_reduce st r (subst (λ x. Valid g γ r [] x) sees v) in
      let under : drop (length (rule g r).right) γ ≡ b = ap (drop (length (rule g r).right)) d ∙ drop_onto (rule g r).right b in
      let st₁ = subst (λ x. Stands g ts p.0 (name (rule g r).left ∷ x) us ρ (rs ++ r ∷ [])) under p.2 in
      let short : length vs < suc (length ts) = omega (arith, ap length st.text, length-append us ρ, ap length e) in
      (p.0, ap (on_advanced (advance_for n g ts)) p.1, p.2.kept, tells_within g ts p.0 qs (tells_run (suc (length ts)) short e z a st₁ R))

  pub tells_reading : (ds : List ℕ) → Makes g ds ts → (room : ℕ) → most_symbols (length ts) ≤ room → Tells g ts (start_config g room) (backwards ds)
  tells_reading ds m room h =
      let short : length ts < suc (length ts) = omega arith in
      tells_within g ts (start_config g room) (backwards ds) (tells_run (suc (length ts)) short refl refl refl (start_stands g ts room h) (accepts_made g (sizes g fits) ds ts m))
