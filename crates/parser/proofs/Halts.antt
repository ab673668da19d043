-- A rule that can be reduced is live: where there is a move the run goes on, and by a test for moves it goes on until it is stuck.
use Rattle.std.proofs.Common.{◌≡◌, ℕ, ◌≤◌, Bool, true, false, ltb, ◌⊎◌, List, [], ◌∷◌, ◌++◌, sym, refl, ap, ◌∙◌, subst, inl, inr, arith}
use mathlib.Core.Bool.{false≢true}
use Rattle.std.proofs.lemmas.Bool.{and_parts, ltb-true}
use Rattle.grammar.specs.Grammar.{Sym, sign, name, Grammar, rule, every}
use Rattle.grammar.specs.Trees.{empty}
use Rattle.grammar.proofs.Sizes.{Sizes}
use Rattle.items.specs.Items.{lookahead}
use Rattle.items.proofs.Items.{end_not_due}
use Rattle.parser.specs.Runs.{Run, stay, shift}
use Rattle.parser.specs.Moves.{CanShift, CanMove, TestsMoves, Stuck, Halts}
use Rattle.parser.proofs.Runs.{run_append, run_sees_lookahead}
use Rattle.parser.proofs.Live.{Live, live, live_run, ShiftsNext, shifts_next}
use Rattle.parser.proofs.Reached.{accepted_stuck}

pub no_move_stuck : {g : Grammar} {γ : List Sym} (ρ : List ℕ) → (CanMove g γ (lookahead ρ) → ⊥) → Stuck g γ ρ
no_move_stuck {g} {γ} ρ n =
    record { no_reduce = λ r v. n (inl (r, v)); no_shift = λ t σ e c. n (inr (subst (λ k. CanShift g γ k) (ap lookahead (sym e)) c)) }

abbrev pub GoesOn : Grammar → List Sym → ℕ → Type 0
GoesOn g γ t = ShiftsNext g γ t ⊎ ((t ≡ 24) × (rs : List ℕ) × Run g γ [] (name (rule g 0).left ∷ []) [] rs)

-- a rule that can be reduced is live: reductions go on until the sign ahead is shifted, or all is accepted
pub goes_on : (g : Grammar) → Sizes g → {γ : List Sym} (t : ℕ) → CanMove g γ t → GoesOn g γ t
goes_on g s {γ} t (inr c) = inl (record { top = γ; can = c; rules = []; run = λ σ. shift c.3 stay })
goes_on g s {γ} t (inl (r, v)) = go (live v) _ refl
  where
    go : (l : Live g γ r [] t) (w : List ℕ) → l.more ≡ w → GoesOn g γ t
    go l [] e = inr (sym (ap lookahead (sym e) ∙ l.looks), r ∷ l.rules, subst (λ x. Run g γ x (name (rule g 0).left ∷ []) [] (r ∷ l.rules)) e (live_run v empty l))
    go l (x ∷ w) e = let z : x ≡ t = ap lookahead (sym e) ∙ l.looks in inl (shifts_next t w (e ∙ ap (λ k. k ∷ w) z) (live_run v empty l))

module _ (g : Grammar) (s : Sizes g) (can : List Sym → ℕ → Bool) (test : TestsMoves g can) where
  halts_accepted : {γ : List Sym} (ρ : List ℕ) (rs : List ℕ) → lookahead ρ ≡ 24 → Run g γ [] (name (rule g 0).left ∷ []) [] rs → Halts g γ ρ
  halts_accepted ρ rs e R =
      record {
        shifted = [];
        left = ρ;
        adds = refl;
        last = name (rule g 0).left ∷ [];
        rules = rs;
        run = run_sees_lookahead ρ (sym e) R;
        stuck = accepted_stuck g s ρ (ap (λ k. name k ∷ []) s.zero_left);
      }

  halts_here : {γ : List Sym} (ρ : List ℕ) → (CanMove g γ (lookahead ρ) → ⊥) → Halts g γ ρ
  halts_here {γ} ρ n =
      record {
        shifted = [];
        left = ρ;
        adds = refl;
        last = γ;
        rules = [];
        run = stay;
        stuck = no_move_stuck ρ n;
      }

  pub halts : (ρ : List ℕ) → every (λ t. ltb t 24) ρ ≡ true → (γ : List Sym) → Halts g γ ρ
  unfolding every
  halts [] h γ = go (can γ 24) refl
    where
      on : GoesOn g γ 24 → Halts g γ []
      on (inl n) = absurd (end_not_due g s n.top n.can)
      on (inr p) = halts_accepted [] p.1 refl p.2

      go : (b : Bool) → can γ 24 ≡ b → Halts g γ []
      go true e = on (goes_on g s 24 ((test γ 24 (omega arith)).0 e))
      go false e = halts_here [] (λ m. false≢true (sym e ∙ (test γ 24 (omega arith)).1 m))
  halts (t ∷ ρ) h γ = go (can γ t) refl (λ δ. halts ρ (and_parts (ltb t 24) (every (λ t. ltb t 24) ρ) h).1 δ)
    where
      l : t ≤ 24
      l = let k = ltb-true t 24 (and_parts (ltb t 24) (every (λ t. ltb t 24) ρ) h).0 in omega arith

      on : ((δ : List Sym) → Halts g δ ρ) → GoesOn g γ t → Halts g γ (t ∷ ρ)
      on ih (inl n) =
          let h = ih (sign t ∷ n.top) in
          record {
            shifted = t ∷ h.shifted;
            left = h.left;
            adds = ap (λ l. t ∷ l) h.adds;
            last = h.last;
            rules = n.rules ++ h.rules;
            run = run_append h.shifted h.adds (n.run ρ) h.run;
            stuck = h.stuck;
          }
      on ih (inr p) = halts_accepted (t ∷ ρ) p.1 p.0 p.2

      go : (b : Bool) → can γ t ≡ b → ((δ : List Sym) → Halts g δ ρ) → Halts g γ (t ∷ ρ)
      go true e ih = on ih (goes_on g s t ((test γ t l).0 e))
      go false e ih = halts_here (t ∷ ρ) (λ m. false≢true (sym e ∙ (test γ t l).1 m))
