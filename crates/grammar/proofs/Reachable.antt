-- The computed reachable names: if all names are productive, a name is marked if and only if it stands in a form.
use Rattle.std.proofs.Common.{◌≡◌, ℕ, ◌<◌, Bool, true, List, [], ◌∷◌, ◌++◌, length, sym, refl, ap, ◌∙◌, append_assoc, arith, lit<}
use Rattle.std.proofs.lemmas.Bool.{and_parts, and_from, eqb-true, or_right}
use Rattle.words.specs.Bits.{has_bit, bit_of}
use Rattle.words.proofs.BitLaws.{has_or, has_pow}
use Rattle.grammar.specs.Grammar.{every, backwards, Sym, sign, name, Grammar, a_grammar, rule, signs, form, comes_by, sym_fits, in_grammar}
use Rattle.grammar.specs.Rows.{named}
use Rattle.grammar.specs.Analysis.{productive, reachable}
use Rattle.grammar.proofs.Lists.{every_parts, every_at}
use Rattle.grammar.proofs.Sizes.{sizes, right_fits}
use Rattle.grammar.proofs.Derivations.{comes_by_then, by_rule_at}
use Rattle.grammar.proofs.Trees.{comes_at_end}
use Rattle.grammar.proofs.Useful.{known}
use Rattle.grammar.proofs.Forms.{kept, form_known}
use Rattle.grammar.proofs.Rounds.{Marks, rounds_sound, rounds_start, rounds_closed}
use Rattle.grammar.proofs.Named.{StandsAt, name_fits, named_fits, named_stands, named_has}
use Rattle.grammar.proofs.Productive.{Comes, all_produce}

-- the name stands in a form
abbrev pub Stands : Grammar → ℕ → Type 0
Stands g n = (ds : List ℕ) × (a w : List Sym) × (form g ds ≡ (a ++ name n ∷ w) ∷ [])

abbrev reach_test : Grammar → ℕ → ℕ → Bool
reach_test g k M = has_bit (rule g k).left M

abbrev reach_mask : Grammar → ℕ → ℕ
reach_mask g k = named (rule g k).right

regroup : {A : Type 0} (a d e z : List A) (x : A) → a ++ (d ++ x ∷ e) ++ z ≡ (a ++ d) ++ x ∷ (e ++ z)
regroup a d e z x = simp append_assoc

-- once what stands behind its name has come to signs, a rule can be used
stands_rule : (g : Grammar) (k : ℕ) (ds : List ℕ) (a w : List Sym) (n : ℕ) → k < length g → form g ds ≡ (a ++ name (rule g k).left ∷ w) ∷ [] →
    Comes g w → StandsAt n (rule g k).right → Stands g n
unfolding comes_by
stands_rule g k ds a w n lt f c s =
    let m = name (rule g k).left in
    let f₁ : form g ds ≡ ((a ++ m ∷ []) ++ w) ∷ [] = f ∙ ap (λ x. x ∷ []) (sym (append_assoc a (m ∷ []) w)) in
    let f₂ : form g (ds ++ backwards c.1) ≡ ((a ++ m ∷ []) ++ signs c.0) ∷ [] =
    comes_by_then g ds (backwards c.1) (name 0 ∷ []) ((a ++ m ∷ []) ++ w) _ f₁ (comes_at_end c.2 (a ++ m ∷ [])) in
    let f₃ : form g (ds ++ backwards c.1) ≡ (a ++ m ∷ signs c.0) ∷ [] = f₂ ∙ ap (λ x. x ∷ []) (append_assoc a (m ∷ []) (signs c.0)) in
    let f₄ : form g ((ds ++ backwards c.1) ++ k ∷ []) ≡ (a ++ (rule g k).right ++ signs c.0) ∷ [] =
    comes_by_then g (ds ++ backwards c.1) (k ∷ []) (name 0 ∷ []) (a ++ m ∷ signs c.0) _ f₃ (by_rule_at g k a (rule g k).left c.0 lt refl) in (
      (ds ++ backwards c.1) ++ k ∷ [],
      a ++ s.0,
      s.1 ++ signs c.0,
      f₄ ∙ ap (λ x. (a ++ x ++ signs c.0) ∷ []) s.2 ∙ ap (λ x. x ∷ []) (regroup a s.0 s.1 (signs c.0) (name n)),
    )

module _ (g : Grammar) (a : a_grammar g ≡ true) where
  reachable_closed : (k : ℕ) → k < length g → has_bit (rule g k).left (reachable g) ≡ true → (n : ℕ) → has_bit n (named (rule g k).right) ≡ true →
      has_bit n (reachable g) ≡ true
  unfolding reachable
  reachable_closed k lt e n h = rounds_closed (length g) (reach_test g) (reach_mask g) (λ j _. named_fits (rule g j).right) 1 (lit< tt) k lt e n h

  -- reached, or a sign
  abbrev reached : Sym → Bool
  reached (sign t) = true
  reached (name n) = has_bit n (reachable g)

  all_reached : (β : List Sym) → every sym_fits β ≡ true → ((n : ℕ) → has_bit n (named β) ≡ true → has_bit n (reachable g) ≡ true) → every reached β ≡ true
  unfolding every named
  all_reached [] fit h = refl
  all_reached (sign t ∷ β) fit h = all_reached β (and_parts (sym_fits (sign t)) (every sym_fits β) fit).1 h
  all_reached (name m ∷ β) fit h =
      let p = and_parts (sym_fits (name m)) (every sym_fits β) fit in
      let l = name_fits m p.0 in
      and_from (has_bit m (reachable g)) (every reached β) (h m (named_has [] β m (omega arith)))
      (all_reached β p.1 (λ n k. h n (has_or n (bit_of m) (named β) ∙ or_right (has_bit n (bit_of m)) (has_bit n (named β)) k)))

  beginning_reached : has_bit 0 (reachable g) ≡ true
  unfolding reachable
  beginning_reached = rounds_start (length g) (reach_test g) (reach_mask g) 64 1 0 (has_pow 0 0)

  stands_reachable : (n : ℕ) → Stands g n → has_bit n (reachable g) ≡ true
  unfolding every
  stands_reachable n p =
      every_at reached p.1 (name n) p.2
      (kept g reached (λ k lt e. all_reached (rule g k).right (right_fits g k lt (sizes g a).fitting) (reachable_closed k lt e)) p.0
      (name 0 ∷ []) (p.1 ++ name n ∷ p.2) p.3 (and_from (has_bit 0 (reachable g)) true beginning_reached refl))

  module _ (all : (n : ℕ) → in_grammar g n ≡ true → has_bit n (productive g) ≡ true) where
    reachable_stands : (n : ℕ) → has_bit n (reachable g) ≡ true → Stands g n
    unfolding reachable comes_by every known
    reachable_stands =
        rounds_sound (length g) (reach_test g) (reach_mask g) (Stands g) step 64 1
        (λ n h. ([], [], [], ap (λ k. (name k ∷ []) ∷ []) (sym (eqb-true n 0 (sym (has_pow n 0) ∙ h)))))
      where
        step : (k M : ℕ) → k < length g → Marks (Stands g) M → has_bit (rule g k).left M ≡ true → Marks (Stands g) (named (rule g k).right)
        step k M lt s e n h =
            let p = s (rule g k).left e in
            let known-form = form_known g (sizes g a) p.0 _ p.3 in
            let behind = (and_parts (in_grammar g (rule g k).left) (every (known g) p.2) (every_parts (known g) p.1 _ known-form).1).1 in
            stands_rule g k p.0 p.1 p.2 n lt p.3 (all_produce g all p.2 behind) (named_stands (rule g k).right n h)

pub reachable_exact : (g : Grammar) → a_grammar g ≡ true → ((n : ℕ) → in_grammar g n ≡ true → has_bit n (productive g) ≡ true) →
    (n : ℕ) → (has_bit n (reachable g) ≡ true → Stands g n) × (Stands g n → has_bit n (reachable g) ≡ true)
reachable_exact g a all n = (reachable_stands g a all n, stands_reachable g a n)
