-- What may come next, behind the last shift: the signs with which there is a move, and the end, if there is one with nothing ahead.
use Rattle.std.proofs.Common.{◌≡◌, ℕ, zero, suc, ◌≤◌, Bool, true, false, eqb, List, [], ◌∷◌, ◌++◌, sym, refl, ◌∙◌, subst, inl, inr, append_assoc, append-nil, arith}
use mathlib.Core.Bool.{false≢true}
use mathlib.Core.List.{append_cancel_left}
use Rattle.std.proofs.lemmas.Bool.{eqb-true, eqb-false}
use Rattle.grammar.specs.Grammar.{Sym, sign, name, Grammar, rule, AllUseful, Makes, backwards}
use Rattle.grammar.specs.Texts.{Begins, MayCome, Follows, has}
use Rattle.grammar.proofs.Lists.{never}
use Rattle.grammar.proofs.Sizes.{Sizes}
use Rattle.items.specs.Items.{lookahead, Valid}
use Rattle.items.proofs.Items.{none_behind_start, end_not_due}
use Rattle.conflicts.specs.Conflicts.{NoConflict}
use Rattle.parser.specs.Runs.{Run, stay, shift, reduce}
use Rattle.parser.specs.Moves.{CanMove}
use Rattle.parser.proofs.Runs.{run_append, accepts_made}
use Rattle.parser.proofs.Sound.{made_accepts}
use Rattle.parser.proofs.Deterministic.{beginning_of_stuck}
use Rattle.parser.proofs.Reached.{SomeItem, accepted_stuck}
use Rattle.parser.specs.Rows.{passing}
use Rattle.parser.proofs.Rows.{rising_passing, passing_below, has_passing}
use Rattle.parser.proofs.Halts.{GoesOn, goes_on}
use Rattle.parser.proofs.Wrong.{ToLastShift, item_at_last_shift, shifted_begins}

-- a run that shifts something begins with a move, and so does one from a stack that is not accepted
move_to_shift : {g : Grammar} {γ γ' : List Sym} {us ρ rs : List ℕ} (t : ℕ) (vs : List ℕ) → us ≡ t ∷ vs → Run g γ us γ' ρ rs → CanMove g γ t
move_to_shift t vs e stay = never (cc)
move_to_shift {g} {γ} t vs e (shift {t = x} {r = r} {β = β} {u = u} v R) =
    let z : x ≡ t = cc in inr (r, β, u, subst (λ k. Valid g γ r (sign k ∷ β) u) z v)
move_to_shift {g} {γ} {ρ = ρ} t vs e (reduce r a v d R) = inl (r, subst (λ l. Valid g γ r [] (lookahead (l ++ ρ))) e v)

move_to_accept : (g : Grammar) → Sizes g → {γ γ' : List Sym} {us rs : List ℕ} → SomeItem g γ → γ' ≡ name 0 ∷ [] → us ≡ [] → Run g γ us γ' [] rs → CanMove g γ 24
move_to_accept g s i e z stay = absurd (none_behind_start g s [] e i.3)
move_to_accept g s i e z (shift v R) = never (cc)
move_to_accept g s {γ} i e z (reduce r a v d R) = inl (r, subst (λ l. Valid g γ r [] (lookahead (l ++ []))) z v)

module _ (g : Grammar) (s : Sizes g) (useful : AllUseful g) {us : List ℕ} (l : ToLastShift g [] us) where
  sign_comes : (t : ℕ) → (t ≡ 24 → ⊥) → GoesOn g l.top t → Begins g (us ++ t ∷ [])
  sign_comes t n (inl m) = shifted_begins g s useful (run_append (t ∷ []) refl (l.run (t ∷ [])) (m.run []))
  sign_comes t n (inr p) = absurd (n p.0)

  end_comes : GoesOn g l.top 24 → (ds : List ℕ) × Makes g ds us
  end_comes (inl m) = absurd (end_not_due g s m.top m.can)
  end_comes (inr p) =
      let A = run_append [] refl (l.run []) p.2 in
      let qs : List ℕ = l.rules ++ p.1 in
      (backwards qs, made_accepts s.rules (subst (λ n. Run g [] us (name n ∷ []) [] qs) s.zero_left (subst (λ x. Run g [] x (name (rule g 0).left ∷ []) [] qs) (append-nil us) A)))

  pub may_come : (t : ℕ) → CanMove g l.top t → MayCome g us t
  unfolding MayCome
  may_come t m = (
    λ k. sign_comes t (eqb-false t 24 k) (goes_on g s t m),
    λ k. end_comes (goes_on g s 24 (subst (λ x. CanMove g l.top x) (eqb-true t 24 k) m)),
  )

  module _ (once : NoConflict g) where
    sign_moves : (t : ℕ) → Begins g (us ++ t ∷ []) → CanMove g l.top t
    unfolding Begins
    sign_moves t (ds, more, m) =
        let A = accepts_made g s ds (us ++ t ∷ [] ++ more) m in
        let e : us ++ t ∷ [] ++ more ++ [] ≡ us ++ (t ∷ more) = append-nil (us ++ t ∷ [] ++ more) ∙ append_assoc us (t ∷ []) more in
        let f = beginning_of_stuck g once e (accepted_stuck g s [] refl) A (l.run (t ∷ more)) in
        let z : f.shifted ≡ t ∷ more = append_cancel_left us f.shifted (t ∷ more) (sym f.shifts_so ∙ append_assoc us (t ∷ []) more) in
        move_to_shift t more z f.run

    end_moves : (ds : List ℕ) → Makes g ds us → CanMove g l.top 24
    end_moves ds m =
        let f = beginning_of_stuck g once refl (accepted_stuck g s [] refl) (accepts_made g s ds us m) (l.run []) in
        let z : f.shifted ≡ [] = append_cancel_left us f.shifted [] (sym f.shifts_so ∙ sym (append-nil us)) in
        move_to_accept g s (item_at_last_shift g s useful l) refl z f.run

    pub comes_by_move : (t : ℕ) → MayCome g us t → CanMove g l.top t
    unfolding MayCome
    comes_by_move t m = go (eqb t 24) refl
      where
        go : (b : Bool) → eqb t 24 ≡ b → CanMove g l.top t
        go false e = sign_moves t (m.0 e)
        go true e = let k = m.1 e in subst (λ x. CanMove g l.top x) (sym (eqb-true t 24 e)) (end_moves k.0 k.1)

    -- the row of all that may come: the numbers up to 24 that pass a test for a move
    pub follows : (f : ℕ → Bool) → ((t : ℕ) → t ≤ 24 → (f t ≡ true → CanMove g l.top t) × (CanMove g l.top t → f t ≡ true)) → Follows g us (passing f 25 0)
    unfolding Follows
    follows f m = (rising_passing f 25 0, passing_below f 24 25 0 (omega arith), λ t h. comes t h (m t h) (has_passing f 25 0 t (omega arith) (omega arith)))
      where
        comes : (t : ℕ) → t ≤ 24 → (f t ≡ true → CanMove g l.top t) × (CanMove g l.top t → f t ≡ true) → has (passing f 25 0) t ≡ f t →
            (has (passing f 25 0) t ≡ true → MayCome g us t) × (has (passing f 25 0) t ≡ false → MayCome g us t → zero ≡ suc zero)
        comes t h k e = (λ y. may_come t (k.0 (sym e ∙ y)), λ n c. never (let y = k.1 (comes_by_move t c) in absurd (false≢true (sym n ∙ e ∙ y))))
