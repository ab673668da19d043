-- A table with a row for each kernel is whole: its kernels are all there are, and it is right where there are no conflicts.
use Rattle.std.proofs.Common.{◌≡◌, ℕ, suc, ◌+◌, ◌*◌, ◌<◌, ◌≤◌, true, false, ltb, leb, ◌⊎◌, List, [], ◌∷◌, length, get_or, sym, refl, ap, ◌∙◌, subst, inl, inr, arith}
use Rattle.std.proofs.lemmas.Bool.{and_parts, both_ways, cases_Bool, leb-true}
use Rattle.grammar.specs.Grammar.{Sym, sign, name, Grammar, sym_fits, a_grammar, AllUseful}
use Rattle.grammar.specs.Spelling.{sym_spelled}
use Rattle.grammar.proofs.Picks.{pick_true, pick_false}
use Rattle.grammar.proofs.Sizes.{sizes}
use Rattle.items.specs.Items.{onto, Valid}
use Rattle.items.specs.Sets.{no_items, advanced_set, set_of, reduce_at}
use Rattle.items.proofs.Stacks.{onto_back}
use Rattle.items.proofs.Items.{Due, next_fits, due_top}
use Rattle.items.proofs.Fits.{lookahead_fits}
use Rattle.items.proofs.ActionsExact.{reduce_sound, reduce_complete}
use Rattle.conflicts.specs.Conflicts.{NoConflict}
use Rattle.conflicts.proofs.Enough.{no_conflict}
use Rattle.parser.proofs.Reached.{SomeItem}
use Rattle.tables.specs.Sets.{Alike, Sets, AtLeast}
use Rattle.tables.specs.ByTable.{entry, column, RightTable}
use Rattle.tables.specs.Making.{kernel_of, is_empty, index_of, Making, entry_of, column_code, made}
use Rattle.tables.specs.Statements.{WholeTable, TableIsMade}
use Rattle.tables.proofs.Standing.{valid_alike, viable_item}
use Rattle.tables.proofs.Indices.{index_found}
use Rattle.tables.proofs.KernelSets.{column_low, column_fits, set_of_kernel, stackable_so, same_kernel, due_some, some_due}
use Rattle.tables.proofs.MakingRows.{number_used, number_one, over, RightEntry, Sound, GivenUp}
use Rattle.tables.proofs.MakingSteps.{Between, made_so}

-- another numbering that gives the same numbers
renumbered : {g : Grammar} {It : List Sym → ℕ → List Sym → ℕ → Type 0} {n m : List Sym → ℕ} {T : List ℕ} → ((γ : List Sym) → n γ ≡ m γ) →
    RightTable g It m T → RightTable g It n T
renumbered {T = T} e R =
    record {
      starts = e [] ∙ R.starts;
      gotos = λ {γ} {r} {x} i. ap (λ k. entry T k (column x)) (e γ) ∙ R.gotos i ∙ ap (λ k. 65 + k) (sym (e (x ∷ γ)));
      reduces = λ {γ} {r} {t} i. ap (λ k. entry T k t) (e γ) ∙ R.reduces i;
      else_wrong = λ {γ} t h i. elim (R.else_wrong t h i) [
        | inl p ↦ inl p
        | inr (inl p) ↦ inr (inl p)
        | inr (inr z) ↦ inr (inr (ap (λ k. entry T k t) (e γ) ∙ z))
      ];
    }

module _ (g : Grammar) (fits : a_grammar g ≡ true) (useful : AllUseful g) (limit : ℕ) (m : Making) (s : Sound g fits useful limit m)
    (long : length m.table ≡ length m.kernels * 56) where
  abbrev ks : List (List ℕ)
  ks = m.kernels

  -- the number of a stack
  abbrev at : List Sym → ℕ
  at γ = index_of (kernel_of g γ) ks

  right_row : (γ : List Sym) → at γ < length ks → (c : ℕ) → c < 56 → RightEntry g fits useful ks (kernel_of g γ) c (entry m.table (at γ) c)
  right_row γ h c l =
      subst (λ k. RightEntry g fits useful ks k c (entry m.table (at γ) c)) (index_found (kernel_of g γ) no_items ks h) (s.right (at γ) c l (omega (arith, long, h, l)))

  over_is : (γ : List Sym) (c : ℕ) → over g fits useful (kernel_of g γ) c ≡ advanced_set g (column_code c) (set_of g γ)
  over_is γ c = ap (advanced_set g (column_code c)) (sym (set_of_kernel g γ))

  over_symbol : (γ : List Sym) (x : Sym) → sym_fits x ≡ true → advanced_set g (column_code (column x)) (set_of g γ) ≡ kernel_of g (x ∷ γ)
  unfolding kernel_of
  over_symbol γ x h = ap (λ b. advanced_set g b (set_of g γ)) (column_fits x h).1

  -- every viable stack's kernel is there
  pub found : (γ : List Sym) → SomeItem g γ → at γ < length ks
  unfolding kernel_of
  found [] i = omega (arith, s.ways.first, s.ways.some)
  found (x ∷ γ) i =
      let d = due_top x γ refl i.3 in
      let f = next_fits g (sizes g fits) d.3 in
      let h = found γ (d.0, x ∷ d.1, d.2, d.3) in
      let e : over g fits useful (kernel_of g γ) (column x) ≡ kernel_of g (x ∷ γ) = over_is γ (column x) ∙ over_symbol γ x f in
      let r = right_row γ h (column x) (column_fits x f).0 in
      subst (λ k. index_of k ks < length ks) e (r.there (ap is_empty e ∙ due_some g fits useful γ x d))

  pub kernels_count : Sets g (length ks)
  kernels_count =
      record {
        number = λ f. at (onto f []);
        below = λ f v. found (onto f []) (viable_item g fits f v);
        used = number_used g fits useful ks s.ways;
        alike = λ f h v w e. alike f h (viable_item g fits f v) (viable_item g fits h w) e;
        one = number_one g fits useful ks s.ways;
      }
    where
      alike : (f h : List Sym) → SomeItem g (onto f []) → SomeItem g (onto h []) → at (onto f []) ≡ at (onto h []) → Alike g f h
      alike f h i j e =
          let k : kernel_of g (onto f []) ≡ kernel_of g (onto h []) =
          sym (index_found (kernel_of g (onto f [])) no_items ks (found (onto f []) i)) ∙ ap (λ n. get_or ks n no_items) e
          ∙ index_found (kernel_of g (onto h [])) no_items ks (found (onto h []) j) in
          valid_alike g fits f h (same_kernel g fits useful (onto f []) (onto h []) j k) (same_kernel g fits useful (onto h []) (onto f []) i (sym k))

  -- the entries of a viable stack
  entry_is : (γ : List Sym) → SomeItem g γ → (c : ℕ) → c < 56 →
      entry m.table (at γ) c
      ≡ entry_of (reduce_at g (set_of g γ) c) (advanced_set g (column_code c) (set_of g γ)) (index_of (advanced_set g (column_code c) (set_of g γ)) ks)
  entry_is γ i c h =
      subst
      (λ z. entry m.table (at γ) c ≡ entry_of (reduce_at g z c) (advanced_set g (column_code c) z) (index_of (advanced_set g (column_code c) z) ks))
      (sym (set_of_kernel g γ)) (right_row γ (found γ i) c h).is

  module _ (once : NoConflict g) where
    no_reduce : (γ : List Sym) (x : Sym) {r : ℕ} {β : List Sym} {u : ℕ} → Valid g γ r (x ∷ β) u → (q : ℕ) → Valid g γ q [] (column x) → ⊥
    unfolding sym_fits
    no_reduce γ (sign t) v q w = once.shift_reduce w v
    no_reduce γ (name n) v q w =
        let k = leb-true 1 n (and_parts (leb 1 n) (ltb n 32) (next_fits g (sizes g fits) v)).0 in
        omega (arith, k, lookahead_fits g (sizes g fits) w)

    goto_entry : (γ : List Sym) (x : Sym) {r : ℕ} {β : List Sym} {u : ℕ} → Valid g γ r (x ∷ β) u → entry m.table (at γ) (column x) ≡ 65 + at (x ∷ γ)
    unfolding entry_of
    goto_entry γ x {r} {β} {u} v =
        let f = next_fits g (sizes g fits) v in
        let i : SomeItem g γ = (r, x ∷ β, u, v) in
        entry_is γ i (column x) (column_fits x f).0 ∙ go (reduce_at g (set_of g γ) (column x)) refl i
        ∙ ap (λ k. 65 + index_of k ks) (over_symbol γ x f)
      where
        K : List ℕ
        K = advanced_set g (column_code (column x)) (set_of g γ)

        go : (rs : List ℕ) → reduce_at g (set_of g γ) (column x) ≡ rs → SomeItem g γ → entry_of rs K (index_of K ks) ≡ 65 + index_of K ks
        go (q ∷ qs) e i = absurd (no_reduce γ x v q (reduce_sound g fits useful γ (stackable_so g fits useful i) (column x) q qs e))
        go [] e i =
            let some : is_empty K ≡ false = ap is_empty (over_symbol γ x (next_fits g (sizes g fits) v)) ∙ due_some g fits useful γ x (r, β, u, v) in
            pick_false (is_empty K) 0 (65 + index_of K ks) some

    reduce_entry : (γ : List Sym) {r t : ℕ} → Valid g γ r [] t → entry m.table (at γ) t ≡ suc r
    unfolding entry_of
    reduce_entry γ {r} {t} v =
        let h : t < 56 = (let k = lookahead_fits g (sizes g fits) v in omega arith) in
        let i : SomeItem g γ = (r, [], t, v) in
        entry_is γ i t h ∙ go (reduce_at g (set_of g γ) t) refl i
      where
        K : List ℕ
        K = advanced_set g (column_code t) (set_of g γ)

        go : (rs : List ℕ) → reduce_at g (set_of g γ) t ≡ rs → SomeItem g γ → entry_of rs K (index_of K ks) ≡ suc r
        go (q ∷ qs) e i = ap suc (once.reduce_reduce (reduce_sound g fits useful γ (stackable_so g fits useful i) t q qs e) v)
        go [] e i = absurd (reduce_complete g fits useful γ (stackable_so g fits useful i) t e r v)

  -- before a sign, or the end
  due_sign : (γ : List Sym) (t : ℕ) (x : Sym) → t ≤ 24 → column_code t ≡ sym_spelled x → Due g γ x → Due g γ (sign t)
  unfolding sym_spelled sym_fits
  due_sign γ t (sign u) h e d = let z : u ≡ t = sym e ∙ column_low t h in subst (λ k. Due g γ (sign k)) z d
  due_sign γ t (name n) h e d = absurd (omega (arith, e, column_low t h))

  abbrev Acts : List Sym → ℕ → Type 0
  Acts γ t =
      ((q : ℕ) × Valid g γ q [] t) ⊎ (((q : ℕ) × (α : List Sym) × (v : ℕ) × Valid g γ q (sign t ∷ α) v) ⊎ (entry m.table (at γ) t ≡ 0))

  else_zero : (γ : List Sym) (t : ℕ) → t ≤ 24 → SomeItem g γ → Acts γ t
  unfolding entry_of
  else_zero γ t h i = go (reduce_at g (set_of g γ) t) refl (entry_is γ i t (omega arith))
    where
      K : List ℕ
      K = advanced_set g (column_code t) (set_of g γ)

      go : (rs : List ℕ) → reduce_at g (set_of g γ) t ≡ rs → entry m.table (at γ) t ≡ entry_of rs K (index_of K ks) → Acts γ t
      go (q ∷ qs) e z = inl (q, reduce_sound g fits useful γ (stackable_so g fits useful i) t q qs e)
      go [] e z = elim (cases_Bool (is_empty K)) [
        | inl none ↦ inr (inr (z ∙ pick_true (is_empty K) 0 (65 + index_of K ks) none))
        | inr some ↦ (let p = some_due g fits useful γ t i (omega arith) some in inr (inl (due_sign γ t p.0 h p.1 p.2)))
      ]

  right_by_stacks : NoConflict g → RightTable g (Valid g) at m.table
  unfolding kernel_of
  right_by_stacks once =
      record {
        starts = s.ways.first;
        gotos = λ {γ} {r} {x} v. goto_entry once γ x v;
        reduces = λ {γ} v. reduce_entry once γ v;
        else_wrong = λ {γ} {r} {β} {u} t h v. else_zero γ t h (r, β, u, v);
      }

  pub whole_table : WholeTable g limit m
  unfolding kernels_count
  whole_table =
      record {
        sets = kernels_count;
        few = s.few;
        long = long;
        small = s.small;
        right = λ enough. renumbered (λ γ. ap at (onto_back γ)) (right_by_stacks (no_conflict g (sizes g fits) useful enough));
      }

pub table_is_made_lem : TableIsMade
unfolding TableIsMade
table_is_made_lem g limit fits useful h = go (made_so g fits useful limit h)
  where
    go : (Between g fits useful limit (made g limit) × ((made g limit).rows ≡ length (made g limit).kernels)) ⊎ GivenUp g fits useful limit (made g limit) →
        ((made g limit).too_many ≡ false → WholeTable g limit (made g limit)) × ((made g limit).too_many ≡ true → AtLeast g (suc limit))
    go (inl (b, e)) = (λ _. whole_table g fits useful limit (made g limit) b.sound (b.long ∙ ap (λ k. k * 56) e), λ z. absurd (both_ways _ b.go_on z))
    go (inr u) = (λ z. absurd (both_ways _ z u.0), λ _. u.1)
