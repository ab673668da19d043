-- One move of the parser that is driven by item sets is a move of the run that its configuration stands for; the room never gives out.
use Rattle.std.proofs.Common.{◌≡◌, ℕ, suc, ◌+◌, ◌-◌, ◌<◌, ◌≤◌, Bool, true, false, List, [], ◌∷◌, ◌++◌, length, drop, set, sym, refl, ap, ◌∙◌, subst, ap₂, append_assoc, arith, length-append, length-drop}
use Rattle.std.proofs.lemmas.List.{length-set}
use Rattle.std.proofs.lemmas.Bool.{lt-ltb}
use Rattle.grammar.specs.Grammar.{pick, every, each, Sym, sign, name, Grammar, rule, a_grammar, AllUseful}
use Rattle.words.specs.Packed.{stacked}
use Rattle.grammar.specs.Spelling.{sym_spelled}
use Rattle.grammar.proofs.Sizes.{sizes}
use Rattle.items.specs.Items.{lookahead, Valid}
use Rattle.items.specs.Sets.{stackable, set_of, goto, reduce_at, shift_at}
use Rattle.items.proofs.Items.{end_not_due}
use Rattle.items.proofs.ActionsExact.{reduce_sound, reduce_complete, shift_sound, shift_complete}
use Rattle.conflicts.specs.Conflicts.{NoConflict}
use Rattle.parser.specs.Runs.{Run}
use Rattle.parser.specs.Moves.{CanShift, Stuck}
use Rattle.parser.specs.Drive.{Config, Moved, shifted, reduced, stuck, shift_move, reduce_move, on_action, moved}
use Rattle.parser.specs.DriveStatements.{most_symbols}
use Rattle.parser.proofs.Runs.{run_push_shift}
use Rattle.parser.proofs.Handles.{run_push_pop}
use Rattle.parser.proofs.StackBound.{stack_bounded}
use Rattle.parser.proofs.Reached.{reached_stackable}
use Rattle.parser.proofs.Kept.{items_pushed, items_after_is}
use Rattle.parser.proofs.Stands.{Stands, height_is, items_are, sees, codes_pushed}

-- what a move comes to: a shift, a reduction, or the run is stuck
pub data Move (g : Grammar) (ts : List ℕ) (γ : List Sym) (us ρ rs : List ℕ) : Moved → Type 0 where
  by_shift : (t : ℕ) (σ : List ℕ) (d : Config) → ρ ≡ t ∷ σ → CanShift g γ t → Stands g ts d (sign t ∷ γ) (us ++ t ∷ []) σ rs → Move g ts γ us ρ rs (shifted d)
  by_reduce : (r : ℕ) (d : Config) → Valid g γ r [] (lookahead ρ) →
      Stands g ts d (name (rule g r).left ∷ drop (length (rule g r).right) γ) us ρ (rs ++ r ∷ []) → Move g ts γ us ρ rs (reduced r d)
  by_none : Stuck g γ ρ → Move g ts γ us ρ rs stuck

module _ (g : Grammar) (fits : a_grammar g ≡ true) (useful : AllUseful g) (once : NoConflict g) (ts : List ℕ) where
  -- a stack that is reached has room
  stack_has_room : {γ : List Sym} {us ρ rs : List ℕ} (cells : List ℕ) → ts ≡ us ++ ρ → most_symbols (length ts) ≤ length cells → Run g [] us γ ρ rs → length γ ≤ length cells
  stack_has_room {us = us} {ρ} cells e h R = omega (arith, stack_bounded g (sizes g fits) useful once R, ap length e, length-append us ρ)

  module _ {c : Config} {γ : List Sym} {us ρ rs : List ℕ} (st : Stands g ts c γ us ρ rs) where
    reduce_stands : (r : ℕ) → Valid g γ r [] (lookahead ρ) → Move g ts γ us ρ rs (reduce_move g c r)
    unfolding reduce_move sym_spelled
    reduce_stands r v =
        let n : ℕ = length (rule g r).right in
        let at : ℕ = c.height - n in
        let R = run_push_pop r st.run v in
        let room : at < length c.cells = omega (arith, stack_has_room c.cells st.text st.room R, height_is st, length-drop n γ) in
        rw (lt-ltb at (length c.cells) room) (by_reduce r _ v (record {
          text = st.text;
          took = st.took;
          codes = codes_pushed c.cells c.height n (name (rule g r).left) γ st.codes room;
          kept = items_after_is g c n at (32 + (rule g r).left) st.kept refl room;
          room = omega (arith, st.room, length-set c.cells at (32 + (rule g r).left));
          run = R;
        }))

    shift_stands : (t : ℕ) (σ : List ℕ) → ρ ≡ t ∷ σ → CanShift g γ t → Move g ts γ us ρ rs (shift_move g c t)
    unfolding shift_move sym_spelled
    shift_stands t σ e can =
        let R : Run g [] (us ++ t ∷ []) (sign t ∷ γ) σ rs = run_push_shift t σ e st.run can.3 in
        let text : ts ≡ us ++ t ∷ [] ++ σ = st.text ∙ ap (λ x. us ++ x) e ∙ sym (append_assoc us (t ∷ []) σ) in
        let none : c.height - 0 ≡ c.height = omega arith in
        let room : c.height < length c.cells = omega (arith, stack_has_room c.cells text st.room R, height_is st) in
        let room₀ : c.height - 0 < length c.cells = omega arith in
        rw (lt-ltb c.height (length c.cells) room) (by_shift t σ _ e can (record {
          text = text;
          took = ap suc st.took ∙ omega (arith, length-append us (t ∷ []));
          codes = subst (λ h. stacked (suc h) (set c.cells h t) ≡ each sym_spelled (sign t ∷ γ)) none (codes_pushed c.cells c.height 0 (sign t) γ st.codes room₀);
          kept = ap (goto g t) st.kept ∙ sym (items_pushed g c.cells c.height t room);
          room = omega (arith, st.room, length-set c.cells c.height t);
          run = R;
        }))

    -- what the items of the stack say before what is left
    act : every stackable γ ≡ true → (qs : List ℕ) → reduce_at g (set_of g γ) (lookahead ρ) ≡ qs → Move g ts γ us ρ rs (on_action g c (lookahead ρ) qs)
    unfolding on_action
    act known (r ∷ qs) e = reduce_stands r (reduce_sound g fits useful γ known (lookahead ρ) r qs e)
    act known [] e = go (shift_at g c.items (lookahead ρ)) (ap (λ x. shift_at g x (lookahead ρ)) (sym (items_are st)))
      where
        shift_ahead : (σ : List ℕ) → ρ ≡ σ → CanShift g γ (lookahead ρ) → Move g ts γ us ρ rs (shift_move g c (lookahead ρ))
        shift_ahead [] i can = absurd (end_not_due g (sizes g fits) γ (subst (λ x. CanShift g γ (lookahead x)) i can))
        shift_ahead (t ∷ σ) i can =
            let z : t ≡ lookahead ρ = ap lookahead (sym i) in
            subst (λ x. Move g ts γ us ρ rs (shift_move g c x)) z (shift_stands t σ i (subst (λ x. CanShift g γ x) (sym z) can))

        go : (b : Bool) → shift_at g (set_of g γ) (lookahead ρ) ≡ b → Move g ts γ us ρ rs (pick b (shift_move g c (lookahead ρ)) stuck)
        go true i = shift_ahead ρ refl (shift_sound g fits useful γ known (lookahead ρ) i)
        go false i =
            by_none (record {
              no_reduce = reduce_complete g fits useful γ known (lookahead ρ) e;
              no_shift = λ t σ k can. shift_complete g fits useful γ known (lookahead ρ) i (subst (λ x. CanShift g γ x) (sym (ap lookahead k)) can);
            })

    pub move : Move g ts γ us ρ rs (moved g ts c)
    unfolding moved
    move =
        let e : moved g ts c ≡ on_action g c (lookahead ρ) (reduce_at g (set_of g γ) (lookahead ρ)) =
        ap₂ (λ t x. on_action g c t (reduce_at g x t)) (sees st) (items_are st) in
        subst (λ m. Move g ts γ us ρ rs m) (sym e) (act (reached_stackable g (sizes g fits) st.run) _ refl)
