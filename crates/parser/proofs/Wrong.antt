-- What a stuck run says of its text: it is made by what was reduced, or first wrong where the run is stuck.
use Rattle.std.proofs.Common.{◌≡◌, ℕ, suc, ◌≤◌, true, ltb, ◌⊎◌, List, [], ◌∷◌, ◌++◌, length, take, sym, refl, ap, ◌∙◌, subst, inl, inr, append_assoc, append-nil, arith, length-append, take_at}
use lib.Seq.{take-append_seam, take-length}
use Rattle.std.proofs.lemmas.Bool.{ltb-true}
use Rattle.grammar.specs.Grammar.{Sym, name, Grammar, every, AllUseful, Makes, backwards}
use Rattle.grammar.specs.Texts.{Begins, NotBegins, NotMade, FirstWrong}
use Rattle.grammar.proofs.Lists.{every_at}
use Rattle.grammar.proofs.Beginnings.{begins_shorter}
use Rattle.grammar.proofs.Sizes.{Sizes}
use Rattle.items.specs.Items.{lookahead}
use Rattle.items.proofs.Items.{none_behind_start, to_come}
use Rattle.conflicts.specs.Conflicts.{NoConflict}
use Rattle.parser.specs.Runs.{Run, stay, shift, reduce}
use Rattle.parser.specs.Moves.{Stuck}
use Rattle.parser.specs.Outcomes.{Outcome, accepts, refuses}
use Rattle.parser.proofs.Runs.{run_append, run_sees_lookahead, accepts_made}
use Rattle.parser.proofs.Sound.{made_accepts}
use Rattle.parser.proofs.Deterministic.{beginning_of_stuck}
use Rattle.parser.proofs.Live.{live, live_run}
use Rattle.parser.proofs.Reached.{SomeItem, Accepted, accepted_stays, reached}

-- the run up to its last shift, whatever comes behind it
pub record ToLastShift (g : Grammar) (γ : List Sym) (us : List ℕ) : Type 0 where
  pub top : List Sym
  pub rules : List ℕ
  pub run : (σ : List ℕ) → Run g γ us top σ rules

pub to_last_shift : {g : Grammar} {γ γ' : List Sym} {us ρ rs : List ℕ} → Run g γ us γ' ρ rs → ToLastShift g γ us
to_last_shift {γ = γ} stay = record { top = γ; rules = []; run = λ σ. stay }
to_last_shift (shift v R) = let l = to_last_shift R in record { top = l.top; rules = l.rules; run = λ σ. shift v (l.run σ) }
to_last_shift {γ = γ} {us = []} (reduce r a v d R) = record { top = γ; rules = []; run = λ σ. stay }
to_last_shift {us = t ∷ us} (reduce r a v d R) = let l = to_last_shift R in record { top = l.top; rules = r ∷ l.rules; run = λ σ. reduce r a v d (l.run σ) }

pub stuck_sees_lookahead : {g : Grammar} {γ : List Sym} {ρ : List ℕ} (t : ℕ) (σ : List ℕ) → Stuck g γ (t ∷ ρ) → Stuck g γ (t ∷ σ)
stuck_sees_lookahead {ρ = ρ} t σ k =
    record { no_reduce = k.no_reduce; no_shift = λ x τ e c. k.no_shift x ρ (let z : t ≡ x = cc in ap (λ y. y ∷ ρ) z) c }

module _ (g : Grammar) (s : Sizes g) (useful : AllUseful g) where
  pub item_at_last_shift : {us : List ℕ} (l : ToLastShift g [] us) → SomeItem g l.top
  item_at_last_shift l = go (reached g s (l.run (0 ∷ [])))
    where
      go : SomeItem g l.top ⊎ Accepted l.top (0 ∷ []) → SomeItem g l.top
      go (inl i) = i
      go (inr p) = absurd (omega (arith, p.1))

  -- what was shifted begins a text: the stack is a viable prefix
  pub shifted_begins : {γ : List Sym} {us ρ rs : List ℕ} → Run g [] us γ ρ rs → Begins g us
  unfolding Begins
  shifted_begins {us = us} R =
      let l = to_last_shift R in
      let i = item_at_last_shift l in
      let D = to_come useful i.3 in
      let k = live i.3 in
      let w : List ℕ = D.0 ++ k.more in
      let qs : List ℕ = l.rules ++ (D.1 ++ i.0 ∷ k.rules) in
      let A = run_append w refl (l.run (w ++ [])) (live_run i.3 D.2 k) in
      (backwards qs, w, made_accepts s.rules (subst (λ n. Run g [] (us ++ w) (name n ∷ []) [] qs) s.zero_left A))

  -- the end, if more would have to come
  wrong_at_end : {γ : List Sym} {us ρ rs : List ℕ} → Run g [] us γ ρ rs → FirstWrong g us (length us)
  unfolding FirstWrong
  wrong_at_end {us = us} R = (omega arith, subst (λ l. Begins g l) (sym (take-length us)) (shifted_begins R), inl refl)

  module _ (once : NoConflict g) where
    -- with the sign at which the run is stuck it begins none
    pub stuck_not_begins : {γ : List Sym} {us ρ rs : List ℕ} (t : ℕ) → Run g [] us γ (t ∷ ρ) rs → Stuck g γ (t ∷ ρ) → NotBegins g (us ++ t ∷ [])
    unfolding Begins NotBegins
    stuck_not_begins {γ} {us} t R k (ds, more, m) =
        let A = accepts_made g s ds (us ++ t ∷ [] ++ more) m in
        let e : us ++ (t ∷ more) ≡ us ++ t ∷ [] ++ more ++ [] = sym (append-nil (us ++ t ∷ [] ++ more) ∙ append_assoc us (t ∷ []) more) in
        let f = beginning_of_stuck g once e (stuck_sees_lookahead t more k) (run_sees_lookahead (t ∷ more) refl R) A in
        absurd (omega (arith, ap length f.shifts_so, length-append (us ++ t ∷ [] ++ more) f.shifted, length-append (us ++ t ∷ []) more, length-append us (t ∷ [])))

    -- nor does more
    pub stuck_not_begun : {γ : List Sym} {us ρ rs : List ℕ} (t : ℕ) → Run g [] us γ (t ∷ ρ) rs → Stuck g γ (t ∷ ρ) → NotBegins g (us ++ (t ∷ ρ))
    unfolding NotBegins
    stuck_not_begun {us = us} {ρ} t R k b =
        stuck_not_begins t R k (begins_shorter g (us ++ t ∷ []) ρ (subst (λ l. Begins g l) (sym (append_assoc us (t ∷ []) ρ)) b))

    -- stuck at the end, with something still to come
    pub stuck_not_made : {γ : List Sym} {us rs : List ℕ} → SomeItem g γ → Run g [] us γ [] rs → Stuck g γ [] → NotMade g us
    unfolding NotMade
    stuck_not_made {γ} {us} i R k ds m =
        let f = beginning_of_stuck g once refl k R (accepts_made g s ds us m) in
        let q = accepted_stays g s [] refl f.run in
        absurd (none_behind_start g s [] q.0 i.3)

    pub stuck_wrong_at_sign : {γ : List Sym} {us ρ rs : List ℕ} (t : ℕ) → Run g [] us γ (t ∷ ρ) rs → Stuck g γ (t ∷ ρ) → FirstWrong g (us ++ (t ∷ ρ)) (length us)
    unfolding FirstWrong
    stuck_wrong_at_sign {us = us} {ρ} t R k =
        let a : us ++ (t ∷ ρ) ≡ us ++ t ∷ [] ++ ρ = sym (append_assoc us (t ∷ []) ρ) in
        let e₁ : take (length us) (us ++ (t ∷ ρ)) ≡ us = take-append_seam us (t ∷ ρ) in
        let l : length (us ++ t ∷ []) ≡ suc (length us) = omega (arith, length-append us (t ∷ [])) in
        let e₂ : take (suc (length us)) (us ++ (t ∷ ρ)) ≡ us ++ t ∷ [] = ap (take (suc (length us))) a ∙ take_at (us ++ t ∷ []) ρ (suc (length us)) l in
        let le : length us ≤ length (us ++ (t ∷ ρ)) = omega (arith, length-append us (t ∷ ρ)) in
        (le, subst (λ x. Begins g x) (sym e₁) (shifted_begins R), inr (subst (λ x. NotBegins g x) (sym e₂) (stuck_not_begins t R k)))

    -- stuck with something still to come, at the end or before a sign
    pub stuck_wrong : {γ : List Sym} {us rs : List ℕ} (ρ : List ℕ) → SomeItem g γ → Run g [] us γ ρ rs → Stuck g γ ρ →
        NotMade g (us ++ ρ) × FirstWrong g (us ++ ρ) (length us)
    unfolding NotMade NotBegins Begins
    stuck_wrong {us = us} {rs} [] i R k =
        subst (λ l. NotMade g l × FirstWrong g l (length us)) (sym (append-nil us)) (stuck_not_made i R k, wrong_at_end R)
    stuck_wrong {us = us} (t ∷ ρ) i R k = (
      λ ds m. stuck_not_begun t R k (ds, [], subst (λ x. Makes g ds x) (sym (append-nil (us ++ (t ∷ ρ)))) m),
      stuck_wrong_at_sign t R k,
    )

    -- the sign 24 stands for the end, so it may be none of the text
    pub outcome : {γ : List Sym} {us ρ rs : List ℕ} → every (λ t. ltb t 24) (us ++ ρ) ≡ true → Run g [] us γ ρ rs → Stuck g γ ρ → Outcome g (us ++ ρ) us rs
    outcome {γ} {us} {ρ} {rs} h R k = go ρ refl (reached g s R)
      where
        go : (σ : List ℕ) → ρ ≡ σ → SomeItem g γ ⊎ Accepted γ ρ → Outcome g (us ++ ρ) us rs
        go σ e (inl i) = let w = stuck_wrong ρ i R k in refuses w.0 w.1
        go [] e (inr p) =
            let A : Run g [] us (name 0 ∷ []) [] rs = subst (λ x. Run g [] us x [] rs) p.0 (subst (λ x. Run g [] us γ x rs) e R) in
            let e₁ : us ≡ us ++ ρ = sym (append-nil us) ∙ ap (λ x. us ++ x) (sym e) in
            accepts e₁ (subst (λ x. Makes g (backwards rs) x) e₁ (made_accepts s.rules A))
        go (t ∷ σ) e (inr p) =
            let z : t ≡ 24 = ap lookahead (sym e) ∙ p.1 in
            let q = ltb-true t 24 (every_at (λ t. ltb t 24) us t σ (subst (λ x. every (λ t. ltb t 24) (us ++ x) ≡ true) e h)) in
            absurd (omega arith)
