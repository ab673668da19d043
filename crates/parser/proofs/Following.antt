-- Right behind the last sign of a text the item set tells what may come next; where the run is stuck before, the text is wrong there.
use Rattle.std.proofs.Common.{◌≡◌, ℕ, ◌<◌, ◌≤◌, Bool, true, false, not, ◌||◌, List, [], ◌∷◌, ◌++◌, length, sym, refl, ap, ◌∙◌, subst, inl, inr, append-nil, arith, length-append}
use mathlib.Core.Bool.{false≢true}
use Rattle.grammar.specs.Grammar.{every, none_of, Sym, Grammar, a_grammar, AllUseful}
use Rattle.grammar.specs.Texts.{Begins, NotBegins, FirstWrong, Follows}
use Rattle.grammar.proofs.Lists.{never}
use Rattle.grammar.proofs.Sizes.{sizes}
use Rattle.items.specs.Sets.{stackable, set_of, reduce_at, shift_at}
use Rattle.items.specs.Actions.{acts_at}
use Rattle.items.proofs.ActionsExact.{reduce_sound, reduce_complete, shift_sound, shift_complete}
use Rattle.conflicts.specs.Conflicts.{NoConflict}
use Rattle.parser.specs.Runs.{Run}
use Rattle.parser.specs.Moves.{CanMove, Stuck}
use Rattle.parser.specs.Rows.{passing}
use Rattle.parser.specs.Drive.{Config, Halt, arrives, sticks, gives_out, run_to, start_config, followed_by, following, next_of}
use Rattle.parser.specs.DriveStatements.{most_symbols, most_moves, GoesOn}
use Rattle.parser.proofs.Reached.{reached_stackable}
use Rattle.parser.proofs.Wrong.{shifted_begins, stuck_not_begun, stuck_wrong_at_sign}
use Rattle.parser.proofs.Rows.{passing_few}
use Rattle.parser.proofs.NextSigns.{follows}
use Rattle.parser.proofs.Stands.{Stands, items_are}
use Rattle.parser.proofs.Halting.{Halted, at_last, at_stuck, run_halts}

module _ (g : Grammar) (fits : a_grammar g ≡ true) (useful : AllUseful g) where
  -- the computed set has an action exactly where there is a move
  acts_moves : (γ : List Sym) → every stackable γ ≡ true → (t : ℕ) →
      (acts_at g (set_of g γ) t ≡ true → CanMove g γ t) × (CanMove g γ t → acts_at g (set_of g γ) t ≡ true)
  unfolding none_of
  acts_moves γ known t = go (reduce_at g (set_of g γ) t) refl (shift_at g (set_of g γ) t) refl
    where
      go : (rs : List ℕ) → reduce_at g (set_of g γ) t ≡ rs → (b : Bool) → shift_at g (set_of g γ) t ≡ b →
          ((not (none_of rs) || b) ≡ true → CanMove g γ t) × (CanMove g γ t → (not (none_of rs) || b) ≡ true)
      go (r ∷ rs) e b i = (λ _. inl (r, reduce_sound g fits useful γ known t r rs e), λ _. refl)
      go [] e true i = (λ _. inr (shift_sound g fits useful γ known t i), λ _. refl)
      go [] e false i = (
        λ z. absurd (false≢true z),
        λ m. elim m [ inl p ↦ absurd (reduce_complete g fits useful γ known t e p.0 p.1) | inr p ↦ absurd (shift_complete g fits useful γ known t i p) ],
      )

  module _ (once : NoConflict g) (ts : List ℕ) where
    -- all is taken
    taken_follows : {c : Config} {γ : List Sym} {us ρ rs : List ℕ} → Stands g ts c γ us ρ rs → length ts ≤ c.taken → ((σ : List ℕ) → Run g [] us γ σ rs) →
        Begins g ts × Follows g ts (passing (acts_at g c.items) 25 0)
    taken_follows {c} {γ} {us} {ρ} {rs} st h any = go ρ refl
      where
        go : (σ : List ℕ) → ρ ≡ σ → Begins g ts × Follows g ts (passing (acts_at g c.items) 25 0)
        go [] e =
            let all : us ≡ ts = sym (st.text ∙ ap (λ x. us ++ x) e ∙ append-nil us) in
            let known = reached_stackable g (sizes g fits) st.run in
            let f = follows g (sizes g fits) useful (record { top = γ; rules = rs; run = any }) once (acts_at g (set_of g γ)) (λ t _. acts_moves γ known t) in
            let f₁ : Follows g us (passing (acts_at g c.items) 25 0) = subst (λ s. Follows g us (passing (acts_at g s) 25 0)) (sym (items_are st)) f in
            (subst (λ x. Begins g x) all (shifted_begins g (sizes g fits) useful st.run), subst (λ x. Follows g x (passing (acts_at g c.items) 25 0)) all f₁)
        go (t ∷ σ) e = absurd (omega (arith, st.took, ap length st.text, length-append us ρ, ap length e))

    -- stuck before
    stuck_before : {c : Config} {γ : List Sym} {us ρ rs : List ℕ} → Stands g ts c γ us ρ rs → Stuck g γ ρ → c.taken < length ts → NotBegins g ts × FirstWrong g ts c.taken
    stuck_before {c} {γ} {us} {ρ} {rs} st k h = go ρ refl
      where
        go : (σ : List ℕ) → ρ ≡ σ → NotBegins g ts × FirstWrong g ts c.taken
        go [] e = absurd (omega (arith, st.took, ap length st.text, length-append us ρ, ap length e))
        go (t ∷ σ) e =
            let R : Run g [] us γ (t ∷ σ) rs = subst (λ x. Run g [] us γ x rs) e st.run in
            let k₁ : Stuck g γ (t ∷ σ) = subst (λ x. Stuck g γ x) e k in
            let text : us ++ (t ∷ σ) ≡ ts = sym (st.text ∙ ap (λ x. us ++ x) e) in
            let w : FirstWrong g ts (length us) = subst (λ x. FirstWrong g x (length us)) text (stuck_wrong_at_sign g (sizes g fits) useful once t R k₁) in
            (subst (λ x. NotBegins g x) text (stuck_not_begun g (sizes g fits) useful once t R k₁), subst (λ n. FirstWrong g ts n) (sym st.took) w)

    pub next_goes_on : (n : ℕ) → length ts ≤ n → (room moves : ℕ) → most_symbols n ≤ room → most_moves n ≤ moves → GoesOn g ts (next_of g ts room moves)
    unfolding next_of following GoesOn
    next_goes_on n short room moves hr hm =
        go (run_to moves (length ts) g ts (start_config g room)) (run_halts g fits useful once ts n short (length ts) room moves hr hm)
      where
        go : (h : Halt) → Halted g ts (length ts) h → GoesOn g ts (following g h)
        go _ (at_last c γ us ρ rs st a any) = taken_follows st a any
        go _ (at_stuck c γ us ρ rs st k l) = stuck_before st k l

-- there are at most 25 of them
pub next_few : (g : Grammar) (ts ks : List ℕ) (room moves : ℕ) → next_of g ts room moves ≡ followed_by ks → length ks ≤ 25
unfolding next_of following
next_few g ts ks room moves e = go (run_to moves (length ts) g ts (start_config g room)) e
  where
    go : (h : Halt) → following g h ≡ followed_by ks → length ks ≤ 25
    go (arrives c) e = let z : passing (acts_at g c.items) 25 0 ≡ ks = cc in subst (λ (x : List ℕ). length x ≤ 25) z (passing_few (acts_at g c.items) 25 0)
    go (sticks c) e = never (cc)
    go gives_out e = never (cc)
