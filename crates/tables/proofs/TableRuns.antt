-- By a right table the machine goes as the runs of the parser go, a step for each move.
--     shifts_so, reduces_so      a move of a run is a step
--     goes_so                    so a run is as many steps
--     reads_so, wrong_so         to the end of a text, or to where nothing moves
use Rattle.std.proofs.Common.{◌≡◌, ℕ, suc, ◌+◌, ◌-◌, ◌<◌, ◌≤◌, Bool, true, false, eqb, ltb, leb, ◌⊎◌, List, [], ◌∷◌, ◌++◌, length, drop, sym, refl, ap, ◌∙◌, subst, subst₂, inl, inr, append-nil, arith, drop-drop}
use Rattle.std.proofs.lemmas.Bool.{and_parts, eq-eqb, ne_eqb, le-leb, lt-leb, leb-true}
use Rattle.grammar.specs.Grammar.{Sym, sign, name, Grammar, rule, sym_fits}
use Rattle.grammar.proofs.Sizes.{Sizes}
use Rattle.items.specs.Items.{onto, lookahead, Valid, start, advance}
use Rattle.items.proofs.Items.{valid_rule, next_fits, end_not_due, none_behind_start, due_top}
use Rattle.parser.specs.Runs.{Run, stay, shift, reduce, Accepts}
use Rattle.parser.specs.Moves.{Stuck}
use Rattle.parser.proofs.Reached.{SomeItem, Accepted, item_reached}
use Rattle.tables.specs.ByTable.{entry, shifted, reduced, stuck, shift_to, goto_over, by_entry, table_step, Goes, now_fine, now_wrong, on_shift, on_reduce, RightTable}

-- the sets of a stack: its own number, and those below
abbrev pub below : (List Sym → ℕ) → List Sym → List ℕ
below number [] = []
below number (x ∷ γ) = number γ ∷ below number γ

abbrev pub sets_of : (List Sym → ℕ) → List Sym → List ℕ
sets_of number γ = number γ ∷ below number γ

sets_drop : (number : List Sym → ℕ) (β a : List Sym) → drop (length β) (sets_of number (onto β a)) ≡ sets_of number a
sets_drop number [] a = refl
sets_drop number (x ∷ β) a =
    let ih : drop (length β) (sets_of number (onto β (x ∷ a))) ≡ sets_of number (x ∷ a) = sets_drop number β (x ∷ a) in
    let e : suc (length β) ≡ length β + 1 = omega arith in
    ap (λ k. drop k (sets_of number (onto β (x ∷ a)))) e ∙ sym (drop-drop 1 (length β) (sets_of number (onto β (x ∷ a)))) ∙ ap (drop 1) ih

module _ (g : Grammar) (s : Sizes g) (number : List Sym → ℕ) (T : List ℕ) (right : RightTable g (Valid g) number T) where
  -- the sets that the machine has at a stack
  abbrev pub AtStack : List Sym → List ℕ → Type 0
  AtStack γ ss = (SomeItem g γ × (ss ≡ sets_of number γ)) ⊎ ((γ ≡ name 0 ∷ []) × (ss ≡ []))

  pub shifts_so : {γ : List Sym} {r t : ℕ} {β : List Sym} {u : ℕ} (ss ρ : List ℕ) → Valid g γ r (sign t ∷ β) u → ss ≡ sets_of number γ →
      table_step g T ss (t ∷ ρ) ≡ shifted (number (sign t ∷ γ) ∷ ss) ρ
  unfolding table_step by_entry shift_to
  shifts_so {γ} {r} {t} {β} {u} ss ρ v e = rw e (go (entry T (number γ) t) (right.gotos v))
    where
      go : (x : ℕ) → x ≡ 65 + number (sign t ∷ γ) → by_entry g T x (sets_of number γ) (t ∷ ρ) ≡ shifted (number (sign t ∷ γ) ∷ sets_of number γ) ρ
      go x z =
          let a : eqb x 0 ≡ false = ne_eqb x 0 (λ y. absurd (omega arith)) in
          let b : leb x 64 ≡ false = lt-leb x 64 (omega arith) in
          let c : x - 65 ≡ number (sign t ∷ γ) = omega arith in
          rw (a, b, c)

  -- behind the goto of a reduction
  pub at_goto : {γ : List Sym} {r : ℕ} (a : List Sym) (ρ : List ℕ) → Valid g γ r [] (lookahead ρ) → γ ≡ onto (rule g r).right a →
      AtStack (name (rule g r).left ∷ a) (goto_over T (rule g r).left (sets_of number a))
  unfolding goto_over sym_fits
  at_goto {γ} {r} a ρ v d = go (item_reached g s (r, [], lookahead ρ, v) (reduce {us = []} {ρ = ρ} r a v d stay))
    where
      go : SomeItem g (name (rule g r).left ∷ a) ⊎ Accepted (name (rule g r).left ∷ a) ρ →
          AtStack (name (rule g r).left ∷ a) (goto_over T (rule g r).left (sets_of number a))
      go (inl i) =
          let p = due_top (name (rule g r).left) a refl i.3 in
          let h = leb-true 1 (rule g r).left (and_parts (leb 1 (rule g r).left) (ltb (rule g r).left 32) (next_fits g s p.3)).0 in
          let z : eqb (rule g r).left 0 ≡ false = ne_eqb (rule g r).left 0 (λ y. absurd (omega arith)) in
          let e : entry T (number a) (24 + (rule g r).left) ≡ 65 + number (name (rule g r).left ∷ a) = right.gotos p.3 in
          let c : entry T (number a) (24 + (rule g r).left) - 65 ≡ number (name (rule g r).left ∷ a) = omega arith in
          inl (i, rw z (ap (λ k. k ∷ sets_of number a) c))
      go (inr p) =
          let l : (rule g r).left ≡ 0 = (let q : name (rule g r).left ≡ name 0 = cc in cc) in
          let z : eqb (rule g r).left 0 ≡ true = eq-eqb _ _ l in
          inr (p.0, rw z)

  pub reduces_so : {γ : List Sym} (r : ℕ) (a : List Sym) (ss ρ : List ℕ) → Valid g γ r [] (lookahead ρ) → γ ≡ onto (rule g r).right a → ss ≡ sets_of number γ →
      table_step g T ss ρ ≡ reduced r (goto_over T (rule g r).left (sets_of number a)) ρ
  unfolding table_step by_entry
  reduces_so {γ} r a ss ρ v d e = rw e (go (entry T (number γ) (lookahead ρ)) (right.reduces v))
    where
      go : (x : ℕ) → x ≡ suc r → by_entry g T x (sets_of number γ) ρ ≡ reduced r (goto_over T (rule g r).left (sets_of number a)) ρ
      go x z =
          let h : r < length g = valid_rule s.rules v in
          let y : eqb x 0 ≡ false = ne_eqb x 0 (λ y. absurd (omega arith)) in
          let b : leb x 64 ≡ true = le-leb x 64 (omega (arith, s.many)) in
          let c : x - 1 ≡ r = omega arith in
          let k : drop (length (rule g r).right) (sets_of number γ) ≡ sets_of number a =
          ap (λ l. drop (length (rule g r).right) (sets_of number l)) d ∙ sets_drop number (rule g r).right a in
          rw (y, b, c, k)

  -- the run's moves are the machine's steps
  pub goes_so : {γ γ' : List Sym} {us ρ rs : List ℕ} {k : ℕ} {qs : List ℕ} {b : Bool} {l : ℕ} → Run g γ us γ' ρ rs → (ss : List ℕ) → AtStack γ ss →
      ((ss' : List ℕ) → AtStack γ' ss' → Goes g T ss' ρ k qs b l) → Goes g T ss (us ++ ρ) (length us + length rs + k) (rs ++ qs) b l
  goes_so {ρ = ρ} {k = k} {qs} {b} {l} stay ss K f = subst (λ x. Goes g T ss ρ x qs b l) (omega arith) (f ss K)
  goes_so (shift v R) ss (inr p) f = absurd (none_behind_start g s [] p.0 v)
  goes_so {γ} {ρ = ρ} {k = k} {qs} {b} {l} (shift {us = us} {rs = rs} {t = t} {r = r} {β = β} {u = u} v R) ss (inl p) f =
      let e = shifts_so ss (us ++ ρ) v p.1 in
      let K : AtStack (sign t ∷ γ) (number (sign t ∷ γ) ∷ ss) = inl ((r, β, u, advance v), ap (λ x. number (sign t ∷ γ) ∷ x) p.1) in
      let h : suc (length us + length rs + k) ≡ suc (length us) + length rs + k = omega arith in
      subst (λ x. Goes g T ss (t ∷ us ++ ρ) x (rs ++ qs) b l) h (on_shift _ _ e (goes_so R _ K f))
  goes_so (reduce r a v d R) ss (inr p) f = absurd (none_behind_start g s [] p.0 v)
  goes_so {us = us} {ρ = ρ} {k = k} {qs} {b} {l} (reduce {rs = rs} r a v d R) ss (inl p) f =
      let e = reduces_so r a ss (us ++ ρ) v d p.1 in
      let h : suc (length us + length rs + k) ≡ length us + suc (length rs) + k = omega arith in
      subst (λ x. Goes g T ss (us ++ ρ) x (r ∷ (rs ++ qs)) b l) h (on_reduce r _ _ e (goes_so R _ (at_goto a (us ++ ρ) v d) f))

  pub at_start : AtStack [] (0 ∷ [])
  at_start = inl ((0, (rule g 0).right, 24, start), ap (λ x. x ∷ []) (sym right.starts))

  -- to accept: as many steps as signs and rules, and one
  pub reads_so : {ts rs : List ℕ} → Accepts g ts rs → Goes g T (0 ∷ []) ts (length ts + length rs + 1) rs true 0
  unfolding table_step
  reads_so {ts} {rs} R =
      subst₂ (λ x y. Goes g T (0 ∷ []) x (length ts + length rs + 1) y true 0) (append-nil ts) (append-nil rs) (goes_so R (0 ∷ []) at_start last)
    where
      last : (ss : List ℕ) → AtStack (name 0 ∷ []) ss → Goes g T ss [] 1 [] true 0
      last ss (inl p) = absurd (none_behind_start g s [] refl p.0.3)
      last ss (inr p) = now_fine (ap (λ x. table_step g T x []) p.1)

  -- to where nothing moves
  pub wrong_so : {γ : List Sym} {us ρ rs : List ℕ} → lookahead ρ ≤ 24 → Run g [] us γ ρ rs → Stuck g γ ρ → (γ ≡ name 0 ∷ [] → ρ ≡ [] → ⊥) →
      Goes g T (0 ∷ []) (us ++ ρ) (length us + length rs + 1) rs false (length ρ)
  unfolding table_step by_entry shift_to
  wrong_so {γ} {us} {ρ} {rs} h R n more =
      subst (λ y. Goes g T (0 ∷ []) (us ++ ρ) (length us + length rs + 1) y false (length ρ)) (append-nil rs) (goes_so R (0 ∷ []) at_start last)
    where
      due_sign : (σ : List ℕ) → ρ ≡ σ → (q : ℕ) (α : List Sym) (v : ℕ) → Valid g γ q (sign (lookahead σ) ∷ α) v → ⊥
      due_sign [] e q α v w = end_not_due g s γ (q, α, v, w)
      due_sign (t ∷ σ) e q α v w = n.no_shift t σ e (q, α, v, w)

      none : SomeItem g γ → entry T (number γ) (lookahead ρ) ≡ 0
      none j = elim (right.else_wrong (lookahead ρ) h j.3) [
        | inl p ↦ absurd (n.no_reduce p.0 p.1)
        | inr (inl p) ↦ absurd (due_sign ρ refl p.0 p.1 p.2 p.3)
        | inr (inr e) ↦ e
      ]

      at_end : (σ : List ℕ) → (σ ≡ [] → ⊥) → table_step g T [] σ ≡ stuck
      at_end [] k = absurd (k refl)
      at_end (t ∷ σ) k = refl

      last : (ss : List ℕ) → AtStack γ ss → Goes g T ss ρ 1 [] false (length ρ)
      last ss (inr p) = now_wrong (ap (λ x. table_step g T x ρ) p.1 ∙ at_end ρ (more p.0))
      last ss (inl p) =
          let e : table_step g T (sets_of number γ) ρ ≡ stuck = ap (λ x. by_entry g T x (sets_of number γ) ρ) (none p.0) in
          now_wrong (ap (λ x. table_step g T x ρ) p.1 ∙ e)
