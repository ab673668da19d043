-- The parser that is driven by a right table is exact, tells the reading, and has bounded stacks.
use Rattle.std.proofs.Common.{◌≡◌, ℕ, zero, suc, ◌+◌, ◌-◌, ◌<◌, ◌≤◌, Bool, true, false, eqb, ltb, leb, List, [], ◌∷◌, ◌++◌, length, drop, sym, refl, ap, ◌∙◌, subst, inl, inr, append_assoc, arith, length-append}
use Rattle.grammar.specs.Grammar.{pick, every, backwards, Sym, sign, name, Grammar, rule, a_grammar}
use Rattle.grammar.proofs.Lists.{never}
use Rattle.grammar.proofs.Sizes.{sizes}
use Rattle.items.specs.Items.{lookahead, Valid, advance}
use Rattle.items.proofs.Items.{end_not_due}
use Rattle.grammar.specs.Texts.{FirstWrong}
use Rattle.parser.specs.Runs.{Run, stay}
use Rattle.parser.specs.Drive.{Ending, accepted, wrong}
use Rattle.parser.specs.DriveStatements.{most_moves, Checked}
use Rattle.parser.specs.Moves.{Halts}
use Rattle.parser.specs.Outcomes.{Outcome, accepts, refuses}
use Rattle.parser.specs.Statements.{MovesAreBounded, StackIsBounded}
use Rattle.parser.proofs.Theorems.{moves_are_bounded_lem, stack_is_bounded_lem}
use Rattle.parser.proofs.Runs.{run_push_shift}
use Rattle.parser.proofs.Handles.{handle_on_top, run_push_pop}
use Rattle.parser.proofs.Reached.{SomeItem}
use Rattle.tables.specs.ByTable.{entry, Stepped, shifted, reduced, fine, stuck, shift_to, goto_over, by_entry, table_step, Goes, now_fine, now_wrong, on_shift, on_reduce, RightTable}
use Rattle.tables.specs.TableDrive.{on_stepped, table_run, table_check, on_next, next_for, next_rule_lem, Tells, ComesTo, here, over_shift, over_reduce}
use Rattle.tables.specs.Statements.{TableReads, TableCheckIsExact, TableTellingIsTheReading, TableStackIsBounded}
use Rattle.tables.proofs.TableRuns.{sets_of, AtStack, at_start, shifts_so, reduces_so, at_goto}
use Rattle.tables.proofs.TableReading.{length_backwards, small_left, run_of, stuck_so, table_reads_lem}

-- ---- a silent run

goes_run : {g : Grammar} {T ss ρ : List ℕ} {k : ℕ} {rs : List ℕ} {b : Bool} {l : ℕ} → Goes g T ss ρ k rs b l → (total n : ℕ) → k ≤ n →
    table_run n g T total ss ρ ≡ pick b accepted (wrong (total - l))
unfolding table_run on_stepped
goes_run (now_fine e) total zero h = absurd (omega arith)
goes_run (now_fine e) total (suc n) h = rw e
goes_run (now_wrong e) total zero h = absurd (omega arith)
goes_run (now_wrong e) total (suc n) h = rw e
goes_run (on_shift ss₁ ρ₁ e G) total zero h = absurd (omega arith)
goes_run (on_shift ss₁ ρ₁ e G) total (suc n) h = rw e (goes_run G total n (omega arith))
goes_run (on_reduce r ss₁ ρ₁ e G) total zero h = absurd (omega arith)
goes_run (on_reduce r ss₁ ρ₁ e G) total (suc n) h = rw e (goes_run G total n (omega arith))

pub table_check_is_exact_lem : TableCheckIsExact
unfolding TableCheckIsExact table_check Checked most_moves MovesAreBounded TableReads
table_check_is_exact_lem g number T ts steps fits useful enough right small h =
    let q = run_of g fits useful enough ts small in go q.0 q.1
  where
    few : (r : Halts g [] ts) → length r.shifted + length r.rules < most_moves (length ts)
    few r =
        moves_are_bounded_lem g fits useful enough (length ts) r.last r.shifted r.left r.rules (omega (arith, ap length r.adds)) r.run

    go : (r : Halts g [] ts) → Outcome g ts r.shifted r.rules → Checked g ts (table_run steps g T (length ts) (0 ∷ []) ts)
    go r (accepts e m) =
        let G = table_reads_lem g number T (backwards r.rules) ts fits right m in
        let k : length ts + length (backwards r.rules) + 1 ≤ steps = omega (arith, few r, h, length_backwards r.rules, ap length e) in
        subst (λ (x : Ending). Checked g ts x) (sym (goes_run G (length ts) steps k)) (backwards r.rules, m)
    go r (refuses nm fw) =
        let G = stuck_so g fits number T ts right small nm r in
        let k : length r.shifted + length r.rules + 1 ≤ steps = omega (arith, few r, h) in
        let p : length r.shifted ≡ length ts - length r.left = omega (arith, ap length r.adds, length-append r.shifted r.left) in
        subst (λ (x : Ending). Checked g ts x) (sym (goes_run G (length ts) steps k)) (nm, subst (λ i. FirstWrong g ts i) p fw)

-- ---- the rules one by one

by_entry_shifted : (g : Grammar) (T : List ℕ) (e : ℕ) (ss ρ ss₁ ρ₁ : List ℕ) → by_entry g T e ss ρ ≡ shifted ss₁ ρ₁ → length ρ ≡ suc (length ρ₁)
unfolding by_entry shift_to
by_entry_shifted g T e ss ρ ss₁ ρ₁ = go (eqb e 0) (leb e 64) ρ
  where
    go : (a b : Bool) (ρ : List ℕ) →
        pick a stuck (pick b (reduced (e - 1) (goto_over T (rule g (e - 1)).left (drop (length (rule g (e - 1)).right) ss)) ρ) (shift_to (e - 65) ss ρ)) ≡ shifted ss₁ ρ₁ →
        length ρ ≡ suc (length ρ₁)
    go true b ρ k = never (cc)
    go false true ρ k = never (cc)
    go false false [] k = never (cc)
    go false false (t ∷ ρ) k = let z : ρ ≡ ρ₁ = cc in ap (λ l. suc (length l)) z

-- a shift takes one sign
shift_takes : (g : Grammar) (T ss ρ ss₁ ρ₁ : List ℕ) → table_step g T ss ρ ≡ shifted ss₁ ρ₁ → length ρ ≡ suc (length ρ₁)
unfolding table_step
shift_takes g T [] [] ss₁ ρ₁ e = never (cc)
shift_takes g T [] (t ∷ ρ) ss₁ ρ₁ e = never (cc)
shift_takes g T (s ∷ ss) ρ ss₁ ρ₁ e = by_entry_shifted g T (entry T s (lookahead ρ)) (s ∷ ss) ρ ss₁ ρ₁ e

next_shifted : (g : Grammar) (T ss ρ ss₁ ρ₁ : List ℕ) → table_step g T ss ρ ≡ shifted ss₁ ρ₁ → next_rule_lem g T ss ρ ≡ next_rule_lem g T ss₁ ρ₁
unfolding next_rule_lem next_for on_next
next_shifted g T ss ρ ss₁ ρ₁ e =
    ap (on_next (next_for (length ρ) g T)) e ∙ ap (λ k. next_for k g T ss₁ ρ₁) (shift_takes g T ss ρ ss₁ ρ₁ e)

tells_shifted : (g : Grammar) (T ss ρ ss₁ ρ₁ rs : List ℕ) → table_step g T ss ρ ≡ shifted ss₁ ρ₁ → Tells g T ss₁ ρ₁ rs → Tells g T ss ρ rs
unfolding Tells
tells_shifted g T ss ρ ss₁ ρ₁ [] e t = next_shifted g T ss ρ ss₁ ρ₁ e ∙ t
tells_shifted g T ss ρ ss₁ ρ₁ (r ∷ rs) e t = (t.0, t.1, next_shifted g T ss ρ ss₁ ρ₁ e ∙ t.2, t.3)

-- whatever the table, the rules of the steps are told
goes_tells : {g : Grammar} {T ss ρ : List ℕ} {k : ℕ} {rs : List ℕ} {b : Bool} {l : ℕ} → Goes g T ss ρ k rs b l → Tells g T ss ρ rs
unfolding Tells next_rule_lem next_for on_next
goes_tells {g} {T} {ρ = ρ} (now_fine e) = ap (on_next (next_for (length ρ) g T)) e
goes_tells {g} {T} {ρ = ρ} (now_wrong e) = ap (on_next (next_for (length ρ) g T)) e
goes_tells {g} {T} {ss} {ρ} (on_shift ss₁ ρ₁ {rs = rs} e G) = tells_shifted g T ss ρ ss₁ ρ₁ rs e (goes_tells G)
goes_tells {g} {T} {ρ = ρ} (on_reduce r ss₁ ρ₁ e G) = (ss₁, ρ₁, ap (on_next (next_for (length ρ) g T)) e, goes_tells G)

pub table_telling_is_the_reading_lem : TableTellingIsTheReading
unfolding TableTellingIsTheReading TableReads
table_telling_is_the_reading_lem g number T ds ts fits right m = goes_tells (table_reads_lem g number T ds ts fits right m)

-- ---- the sets on the stack

module _ (g : Grammar) (fits : a_grammar g ≡ true) (number : List Sym → ℕ) (T ts : List ℕ) (right : RightTable g (Valid g) number T) where
  -- where the machine is, a run is
  record RunsTo (ss ρ : List ℕ) : Type 0 where
    pub stack : List Sym
    pub taken : List ℕ
    pub rules : List ℕ
    pub run : Run g [] taken stack ρ rules
    pub text : ts ≡ taken ++ ρ
    pub at : AtStack g (sizes g fits) number T right stack ss

  abbrev After : Stepped → Type 0
  After (shifted ss ρ) = RunsTo ss ρ
  After (reduced r ss ρ) = RunsTo ss ρ
  After fine = Unit {0}
  After stuck = Unit {0}

  module _ (small : every (λ t. ltb t 24) ts ≡ true) where
    after_step : (ss ρ : List ℕ) → RunsTo ss ρ → After (table_step g T ss ρ)
    unfolding table_step by_entry
    after_step ss ρ w = go w.at
      where
        low : lookahead ρ ≤ 24
        low = small_left w.taken ρ (subst (λ l. every (λ t. ltb t 24) l ≡ true) w.text small)

        at_end : (σ : List ℕ) → After (table_step g T [] σ)
        at_end [] = tt
        at_end (t ∷ σ) = tt

        by_shift : (σ : List ℕ) → ρ ≡ σ → SomeItem g w.stack → ss ≡ sets_of number w.stack → (q : ℕ) (α : List Sym) (v : ℕ) →
            Valid g w.stack q (sign (lookahead σ) ∷ α) v → After (table_step g T ss ρ)
        by_shift [] e i k q α v d = absurd (end_not_due g (sizes g fits) w.stack (q, α, v, d))
        by_shift (t ∷ σ) e i k q α v d =
            let z : table_step g T ss ρ ≡ shifted (number (sign t ∷ w.stack) ∷ ss) σ =
            ap (table_step g T ss) e ∙ shifts_so g (sizes g fits) number T right ss σ d k in
            subst After (sym z) (record {
              stack = sign t ∷ w.stack;
              taken = w.taken ++ t ∷ [];
              rules = w.rules;
              run = run_push_shift t σ e w.run d;
              text = w.text ∙ ap (λ l. w.taken ++ l) e ∙ sym (append_assoc w.taken (t ∷ []) σ);
              at = inl ((q, α, v, advance d), ap (λ l. number (sign t ∷ w.stack) ∷ l) k);
            })

        by_reduce : ss ≡ sets_of number w.stack → (q : ℕ) → Valid g w.stack q [] (lookahead ρ) → After (table_step g T ss ρ)
        by_reduce k q d =
            let a : List Sym = drop (length (rule g q).right) w.stack in
            let top = handle_on_top d in
            subst After (sym (reduces_so g (sizes g fits) number T right q a ss ρ d top k)) (record {
              stack = name (rule g q).left ∷ a;
              taken = w.taken;
              rules = w.rules ++ q ∷ [];
              run = run_push_pop q w.run d;
              text = w.text;
              at = at_goto g (sizes g fits) number T right a ρ d top;
            })

        go : AtStack g (sizes g fits) number T right w.stack ss → After (table_step g T ss ρ)
        go (inr p) = subst (λ x. After (table_step g T x ρ)) (sym p.1) (at_end ρ)
        go (inl (i, k)) = elim (right.else_wrong (lookahead ρ) low i.3) [
          | inl p ↦ by_reduce k p.0 p.1
          | inr (inl p) ↦ by_shift ρ refl i k p.0 p.1 p.2 p.3
          | inr (inr z) ↦
              (let e : table_step g T (sets_of number w.stack) ρ ≡ stuck = ap (λ x. by_entry g T x (sets_of number w.stack) ρ) z in
              subst After (sym (ap (λ x. table_step g T x ρ) k ∙ e)) tt)
        ]

    comes_runs : {ss ρ ss₂ ρ₂ : List ℕ} → ComesTo g T ss ρ ss₂ ρ₂ → RunsTo ss ρ → RunsTo ss₂ ρ₂
    comes_runs here w = w
    comes_runs {ss} {ρ} (over_shift ss₁ ρ₁ e C) w = comes_runs C (subst After e (after_step ss ρ w))
    comes_runs {ss} {ρ} (over_reduce r ss₁ ρ₁ e C) w = comes_runs C (subst After e (after_step ss ρ w))

  sets_length : (γ : List Sym) → length (sets_of number γ) ≡ length γ + 1
  sets_length [] = refl
  sets_length (x ∷ γ) = let h = sets_length γ in omega arith

pub table_stack_is_bounded_lem : TableStackIsBounded
unfolding TableStackIsBounded StackIsBounded
table_stack_is_bounded_lem g number T ts ss ρ fits useful enough right small C =
    let w = comes_runs g fits number T ts right small C
    (record { stack = []; taken = []; rules = []; run = stay; text = refl; at = at_start g (sizes g fits) number T right }) in
    let b = stack_is_bounded_lem g fits useful enough w.stack w.taken ρ w.rules w.run in
    let t : length w.taken ≤ length ts = omega (arith, ap length w.text, length-append w.taken ρ) in
    elim w.at [
      | inl p ↦ omega (arith, b, t, ap length p.1, sets_length g fits number T ts right w.stack)
      | inr p ↦ omega (arith, ap length p.1)
    ]
