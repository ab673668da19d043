-- What may come next after a text, or where it is wrong before its end.
use Rattle.std.proofs.Common.{◌≡◌, ℕ, Bool, true, ltb, List, [], ◌∷◌, ◌++◌, length, sym, refl, ap, ◌∙◌, subst, append-nil}
use Rattle.grammar.specs.Grammar.{Sym, Grammar, every, AllUseful}
use Rattle.grammar.proofs.Sizes.{Sizes}
use Rattle.conflicts.specs.Conflicts.{NoConflict}
use Rattle.parser.specs.Runs.{Run}
use Rattle.parser.specs.Moves.{TestsMoves, Stuck, Halts}
use Rattle.parser.specs.Outcomes.{Continues, goes_on_by, wrong_before_end}
use Rattle.parser.specs.Rows.{passing}
use Rattle.parser.proofs.Halts.{halts}
use Rattle.parser.proofs.Wrong.{to_last_shift, shifted_begins, stuck_not_begun, stuck_wrong_at_sign}
use Rattle.parser.proofs.NextSigns.{follows}

module _ (g : Grammar) (s : Sizes g) (useful : AllUseful g) (once : NoConflict g) (can : List Sym → ℕ → Bool) (test : TestsMoves g can) where
  all_shifted : {γ : List Sym} {ts ρ rs : List ℕ} → Run g [] ts γ ρ rs → Continues g ts
  all_shifted R =
      let l = to_last_shift R in
      goes_on_by (shifted_begins g s useful R) (passing (can l.top) 25 0) (follows g s useful l once (can l.top) (test l.top))

  stuck_inside : {γ : List Sym} {us ρ rs : List ℕ} (t : ℕ) → Run g [] us γ (t ∷ ρ) rs → Stuck g γ (t ∷ ρ) → Continues g (us ++ (t ∷ ρ))
  stuck_inside {us = us} t R k = wrong_before_end (length us) (stuck_not_begun g s useful once t R k) (stuck_wrong_at_sign g s useful once t R k)

  pub continues : (ts : List ℕ) → every (λ t. ltb t 24) ts ≡ true → Continues g ts
  continues ts k = go (halts g s can test ts k []) _ refl
    where
      go : (h : Halts g [] ts) (σ : List ℕ) → h.left ≡ σ → Continues g ts
      go h [] e = subst (λ l. Continues g l) (sym (h.adds ∙ ap (λ l. h.shifted ++ l) e ∙ append-nil h.shifted)) (all_shifted h.run)
      go h (t ∷ σ) e =
          let R = subst (λ l. Run g [] h.shifted h.last l h.rules) e h.run in
          subst (λ l. Continues g l) (sym (h.adds ∙ ap (λ l. h.shifted ++ l) e)) (stuck_inside t R (subst (λ l. Stuck g h.last l) e h.stuck))
