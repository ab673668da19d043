-- The items that stand behind a row in forms are those that are valid behind it.
--     stands_valid, valid_stands      one way and the other
--     alike_valid, valid_alike        so rows are alike just if the same items are valid behind them
--     viable_item, item_viable        and viable just if some item is
use Rattle.std.proofs.Common.{◌≡◌, ℕ, ◌≤◌, true, List, [], ◌∷◌, ◌++◌, length, take, drop, sym, ap, ◌∙◌, subst, arith, length-append, length-drop, take-append-drop}
use lib.Seq.{take-append_seam}
use Rattle.grammar.specs.Grammar.{Sym, name, Grammar, rule, form, look, signs, a_grammar}
use Rattle.grammar.proofs.Signs.{as_signs, all_signs_signs}
use Rattle.items.specs.Items.{onto, Valid}
use Rattle.items.specs.Statements.{ItemsSound, ItemsComplete}
use Rattle.items.proofs.Stacks.{onto_back, look_signs}
use Rattle.items.proofs.Forms.{items_sound_lem, items_complete_lem}
use Rattle.items.proofs.Fits.{dot_of}
use Rattle.parser.proofs.Reached.{SomeItem}
use Rattle.tables.specs.Sets.{Stands, Viable, Alike}
use Rattle.tables.specs.Statements.{StandsIsValid}

-- what is valid behind γ is valid behind δ
abbrev pub SameItems : Grammar → List Sym → List Sym → Type 0
SameItems g γ δ = (r : ℕ) (β : List Sym) (t : ℕ) → Valid g γ r β t → Valid g δ r β t

module _ (g : Grammar) (fits : a_grammar g ≡ true) where
  pub stands_valid : (f : List Sym) (r d t : ℕ) → Stands g f r d t → Valid g (onto f []) r (drop d (rule g r).right) t
  unfolding ItemsComplete
  stands_valid f r d t s =
      let p = as_signs s.behind s.last in
      let e : form g s.rules ≡ (s.before ++ name (rule g r).left ∷ signs p.0) ∷ [] =
      subst (λ x. form g s.rules ≡ (s.before ++ name (rule g r).left ∷ x) ∷ []) p.1 s.forms in
      items_complete_lem g (onto f []) r (drop d (rule g r).right) t fits (record {
        before = s.before;
        done = take d (rule g r).right;
        behind = p.0;
        rules = s.rules;
        is_rule = s.is_rule;
        parts = sym (take-append-drop d (rule g r).right);
        stack = onto_back f ∙ s.row;
        ahead = sym (look_signs p.0) ∙ ap look (sym p.1) ∙ s.ahead;
        forms = e;
      })

  -- the dot is where what is to come begins
  same_dot : (l : List Sym) (d e : ℕ) → d ≤ length l → e ≤ length l → drop d l ≡ drop e l → d ≡ e
  same_dot l d e h k z = omega (arith, h, k, ap length z, length-drop d l, length-drop e l)

  done_at : (right done : List Sym) (d : ℕ) → d ≤ length right → right ≡ done ++ drop d right → done ≡ take d right
  done_at right done d h e =
      let l : d ≡ length done = omega (arith, h, ap length e, length-append done (drop d right), length-drop d right) in
      sym (ap (take d) e ∙ ap (λ k. take k (done ++ drop d right)) l ∙ take-append_seam done (drop d right))

  pub valid_stands : (f : List Sym) (r d t : ℕ) → d ≤ length (rule g r).right → Valid g (onto f []) r (drop d (rule g r).right) t → Stands g f r d t
  unfolding ItemsSound
  valid_stands f r d t h v =
      let i = items_sound_lem g (onto f []) r (drop d (rule g r).right) t fits v in
      record {
        rules = i.rules;
        before = i.before;
        behind = signs i.behind;
        forms = i.forms;
        last = all_signs_signs i.behind;
        ahead = look_signs i.behind ∙ i.ahead;
        is_rule = i.is_rule;
        dot = h;
        row = sym (onto_back f) ∙ i.stack ∙ ap (λ x. i.before ++ x) (done_at (rule g r).right i.done d h i.parts);
      }

  -- an item that is valid has a dot
  pub item_stands : (f : List Sym) (r : ℕ) (β : List Sym) (t : ℕ) → Valid g (onto f []) r β t → (d : ℕ) × (β ≡ drop d (rule g r).right) × Stands g f r d t
  item_stands f r β t v =
      let d = dot_of v in
      (d.0, d.2, valid_stands f r d.0 t d.1 (subst (λ x. Valid g (onto f []) r x t) d.2 v))

  -- ROWS AND STACKS
  pub alike_valid : (f h : List Sym) → Alike g f h → SameItems g (onto f []) (onto h [])
  unfolding Alike
  alike_valid f h a r β t v =
      let p = item_stands f r β t v in
      subst (λ x. Valid g (onto h []) r x t) (sym p.1) (stands_valid h r p.0 t ((a r p.0 t).0 p.2))

  valid_stands_too : (f h : List Sym) → SameItems g (onto f []) (onto h []) → (r d t : ℕ) → Stands g f r d t → Stands g h r d t
  valid_stands_too f h a r d t s = valid_stands h r d t s.dot (a r (drop d (rule g r).right) t (stands_valid f r d t s))

  pub valid_alike : (f h : List Sym) → SameItems g (onto f []) (onto h []) → SameItems g (onto h []) (onto f []) → Alike g f h
  unfolding Alike
  valid_alike f h a b r d t = (valid_stands_too f h a r d t, valid_stands_too h f b r d t)

  pub alike_turned : (f h : List Sym) → Alike g f h → Alike g h f
  unfolding Alike
  alike_turned f h a r d t = ((a r d t).1, (a r d t).0)

  pub same_alike : (f h : List Sym) → f ≡ h → Alike g f h
  unfolding Alike
  same_alike f h e r d t = (λ s. subst (λ x. Stands g x r d t) e s, λ s. subst (λ x. Stands g x r d t) (sym e) s)

  pub viable_item : (f : List Sym) → Viable g f → SomeItem g (onto f [])
  viable_item f v =
      (v.of_rule, drop v.at_dot (rule g v.of_rule).right, v.before_sign, stands_valid f v.of_rule v.at_dot v.before_sign v.stands)

  pub item_viable : (f : List Sym) → SomeItem g (onto f []) → Viable g f
  item_viable f (r, β, t, v) =
      let p = item_stands f r β t v in
      record { of_rule = r; at_dot = p.0; before_sign = t; stands = p.2 }

pub stands_is_valid_lem : StandsIsValid
unfolding StandsIsValid
stands_is_valid_lem g f r d t fits = (λ s. (s.dot, stands_valid g fits f r d t s), λ p. valid_stands g fits f r d t p.0 p.1)
