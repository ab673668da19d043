-- Reading by a right table: texts are read, what is no text is refused at its first wrong place, and it goes in one way.
use Rattle.std.proofs.Common.{◌≡◌, ℕ, suc, ◌+◌, ◌≤◌, Bool, true, false, ltb, List, [], ◌∷◌, ◌++◌, length, sym, refl, ap, ◌∙◌, subst, ap₂, subst₂, inl, inr, append-nil, arith, length-append}
use Rattle.std.proofs.lemmas.Bool.{and_parts, ltb-true}
use Rattle.grammar.specs.Grammar.{every, backwards, Sym, name, Grammar, a_grammar, AllUseful, Enough, Makes}
use Rattle.grammar.specs.Texts.{NotMade}
use Rattle.grammar.specs.Statements.{WrongOnce}
use Rattle.grammar.proofs.Lists.{never, every_parts}
use Rattle.grammar.proofs.Beginnings.{wrong_once_lem}
use Rattle.grammar.proofs.Sizes.{sizes}
use Rattle.items.specs.Items.{lookahead, Valid}
use Rattle.items.proofs.ActionsExact.{Decided, decided}
use Rattle.parser.specs.Runs.{Run, Accepts}
use Rattle.parser.specs.Moves.{CanMove, Halts}
use Rattle.parser.specs.Outcomes.{Outcome, accepts, refuses}
use Rattle.parser.specs.Statements.{TextsAreRead}
use Rattle.parser.proofs.Runs.{accepts_made}
use Rattle.parser.proofs.Sound.{made_accepts}
use Rattle.parser.proofs.Theorems.{texts_are_read_lem}
use Rattle.tables.specs.ByTable.{Goes, now_fine, now_wrong, on_shift, on_reduce, RightTable}
use Rattle.tables.specs.Statements.{TableReads, TableRefuses, GoesOnce}
use Rattle.tables.proofs.TableRuns.{reads_so, wrong_so}

pub length_backwards : {A : Type 0} (xs : List A) → length (backwards xs) ≡ length xs
unfolding backwards
length_backwards [] = refl
length_backwards (x ∷ xs) = let h = length_backwards xs in omega (arith, length-append (backwards xs) (x ∷ []))

pub table_reads_lem : TableReads
unfolding TableReads
table_reads_lem g number T ds ts fits right m =
    subst (λ k. Goes g T (0 ∷ []) ts (length ts + k + 1) (backwards ds) true 0) (length_backwards ds)
    (reads_so g (sizes g fits) number T right (accepts_made g (sizes g fits) ds ts m))

-- whether there is a move is decided
abbrev tells : {g : Grammar} {γ : List Sym} {t : ℕ} → Decided g γ t → Bool
tells (inl p) = true
tells (inr (n, inl d)) = true
tells (inr (n, inr d)) = false

tells_move : {g : Grammar} {γ : List Sym} {t : ℕ} (d : Decided g γ t) → tells d ≡ true → CanMove g γ t
tells_move (inl p) e = inl p
tells_move (inr (n, inl d)) e = inr d
tells_move (inr (n, inr d)) e = never (cc)

move_tells : {g : Grammar} {γ : List Sym} {t : ℕ} (d : Decided g γ t) → CanMove g γ t → tells d ≡ true
move_tells (inl p) m = refl
move_tells (inr (n, inl d)) m = refl
move_tells (inr (n, inr d)) (inl p) = absurd (n p.0 p.1)
move_tells (inr (n, inr d)) (inr c) = absurd (d c)

pub small_left : (us ρ : List ℕ) → every (λ t. ltb t 24) (us ++ ρ) ≡ true → lookahead ρ ≤ 24
unfolding every
small_left us [] h = omega arith
small_left us (t ∷ ρ) h =
    let k = ltb-true t 24 (and_parts (ltb t 24) (every (λ t. ltb t 24) ρ) (every_parts (λ t. ltb t 24) us (t ∷ ρ) h).1).0 in omega arith

-- so every text has a run that is stuck
pub run_of : (g : Grammar) → a_grammar g ≡ true → AllUseful g → Enough g → (ts : List ℕ) → every (λ t. ltb t 24) ts ≡ true →
    (h : Halts g [] ts) × Outcome g ts h.shifted h.rules
unfolding TextsAreRead
run_of g fits useful enough ts small =
    texts_are_read_lem g fits useful enough (λ γ t. tells (decided g fits useful γ t))
    (λ γ t h. (tells_move (decided g fits useful γ t), move_tells (decided g fits useful γ t))) ts small

-- and the machine goes as it does
pub stuck_so : (g : Grammar) (fits : a_grammar g ≡ true) (number : List Sym → ℕ) (T ts : List ℕ) → RightTable g (Valid g) number T →
    every (λ t. ltb t 24) ts ≡ true → NotMade g ts → (h : Halts g [] ts) →
    Goes g T (0 ∷ []) ts (length h.shifted + length h.rules + 1) h.rules false (length h.left)
unfolding NotMade
stuck_so g fits number T ts right small not_made h =
    subst (λ l. Goes g T (0 ∷ []) l (length h.shifted + length h.rules + 1) h.rules false (length h.left)) (sym h.adds)
    (wrong_so g (sizes g fits) number T right (small_left h.shifted h.left (subst (λ l. every (λ t. ltb t 24) l ≡ true) h.adds small))
    h.run h.stuck not_over)
  where
    not_over : h.last ≡ name 0 ∷ [] → h.left ≡ [] → ⊥
    not_over e z =
        let R : Accepts g h.shifted h.rules = subst₂ (λ x y. Run g [] h.shifted x y h.rules) e z h.run in
        let k : h.shifted ≡ ts = sym (h.adds ∙ ap (λ l. h.shifted ++ l) z ∙ append-nil h.shifted) in
        let m = not_made (backwards h.rules) (subst (λ l. Makes g (backwards h.rules) l) k (made_accepts (sizes g fits).rules R)) in
        omega (arith, m)

pub table_refuses_lem : TableRefuses
unfolding TableRefuses WrongOnce NotMade
table_refuses_lem g number T ts p fits useful enough right small not_made first =
    let q = run_of g fits useful enough ts small in
    go q.0 q.1
  where
    go : (h : Halts g [] ts) → Outcome g ts h.shifted h.rules →
        (n : ℕ) × (rs : List ℕ) × (l : ℕ) × Goes g T (0 ∷ []) ts n rs false l × (p + l ≡ length ts)
    go h (accepts e m) = absurd (omega (arith, not_made (backwards h.rules) m))
    go h (refuses nm fw) =
        let o : p ≡ length h.shifted = (wrong_once_lem g ts [] p (length h.shifted)).1 first fw in (
          length h.shifted + length h.rules + 1,
          h.rules,
          length h.left,
          stuck_so g fits number T ts right small not_made h,
          omega (arith, o, ap length h.adds, length-append h.shifted h.left),
        )

pub goes_once_lem : GoesOnce
unfolding GoesOnce
goes_once_lem g T ss ρ k j rs qs b c l m (now_fine e) (now_fine f) = (refl, refl, refl, refl)
goes_once_lem g T ss ρ k j rs qs b c l m (now_fine e) (now_wrong f) = never (cc)
goes_once_lem g T ss ρ k j rs qs b c l m (now_fine e) (on_shift ss₁ ρ₁ f G) = never (cc)
goes_once_lem g T ss ρ k j rs qs b c l m (now_fine e) (on_reduce r ss₁ ρ₁ f G) = never (cc)
goes_once_lem g T ss ρ k j rs qs b c l m (now_wrong e) (now_fine f) = never (cc)
goes_once_lem g T ss ρ k j rs qs b c l m (now_wrong e) (now_wrong f) = (refl, refl, refl, refl)
goes_once_lem g T ss ρ k j rs qs b c l m (now_wrong e) (on_shift ss₁ ρ₁ f G) = never (cc)
goes_once_lem g T ss ρ k j rs qs b c l m (now_wrong e) (on_reduce r ss₁ ρ₁ f G) = never (cc)
goes_once_lem g T ss ρ k j rs qs b c l m (on_shift ss₁ ρ₁ e F) (now_fine f) = never (cc)
goes_once_lem g T ss ρ k j rs qs b c l m (on_shift ss₁ ρ₁ e F) (now_wrong f) = never (cc)
goes_once_lem g T ss ρ _ _ rs qs b c l m (on_shift ss₁ ρ₁ {k = k} e F) (on_shift ss₂ ρ₂ {k = j} f G) =
    let x : ss₂ ≡ ss₁ = cc in
    let y : ρ₂ ≡ ρ₁ = cc in
    let o = goes_once_lem g T ss₁ ρ₁ k j rs qs b c l m F (subst₂ (λ x y. Goes g T x y j qs c m) x y G) in
    (ap suc o.0, o.1, o.2, o.3)
goes_once_lem g T ss ρ k j rs qs b c l m (on_shift ss₁ ρ₁ e F) (on_reduce r ss₂ ρ₂ f G) = never (cc)
goes_once_lem g T ss ρ k j rs qs b c l m (on_reduce r ss₁ ρ₁ e F) (now_fine f) = never (cc)
goes_once_lem g T ss ρ k j rs qs b c l m (on_reduce r ss₁ ρ₁ e F) (now_wrong f) = never (cc)
goes_once_lem g T ss ρ k j rs qs b c l m (on_reduce r ss₁ ρ₁ e F) (on_shift ss₂ ρ₂ f G) = never (cc)
goes_once_lem g T ss ρ _ _ _ _ b c l m (on_reduce r ss₁ ρ₁ {k = k} {rs = rs} e F) (on_reduce r₂ ss₂ ρ₂ {k = j} {rs = qs} f G) =
    let x : ss₂ ≡ ss₁ = cc in
    let y : ρ₂ ≡ ρ₁ = cc in
    let z : r ≡ r₂ = cc in
    let o = goes_once_lem g T ss₁ ρ₁ k j rs qs b c l m F (subst₂ (λ x y. Goes g T x y j qs c m) x y G) in
    (ap suc o.0, ap₂ (λ a l. a ∷ l) z o.1, o.2, o.3)
