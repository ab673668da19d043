-- The actions that the set of a stack gives are those of the valid items: which rule is complete, and whether a sign is next.
--     reduce_sound, reduce_complete      the rule that is found is complete with t ahead; where none is found, none is
--     shift_sound, shift_complete      the sign is next in some valid item, or in none
--     decided      what can be done behind a stack with t ahead is decided
use Rattle.std.proofs.Common.{◌≡◌, ℕ, zero, suc, ◌<◌, Bool, true, false, not, ◌&&◌, eqb, ltb, ◌⊎◌, List, [], ◌∷◌, get_or, refl, ap, ◌∙◌, subst, subst₂, inl, inr, ⊎_elim, true≢false, arith}
use mathlib.Core.Bool.{false≢true}
use Rattle.std.proofs.lemmas.Bool.{and_parts, and_from, cases_Bool, cases_eq, eqb-true, eqb-false, eq-eqb, ne_eqb, ltb-true, both_ways, not-true, not_from_false}
use Rattle.words.specs.Bits.{has_bit}
use Rattle.words.specs.Iter.{counted}
use Rattle.words.proofs.BitLaws.{nonzero_has, has_nonzero}
use Rattle.words.proofs.Fixpoint.{counted_keeps}
use Rattle.grammar.specs.Grammar.{pick, none_of, every, Sym, sign, Grammar, sym_fits, a_grammar, AllUseful}
use Rattle.grammar.specs.Spelling.{sym_spelled}
use Rattle.grammar.specs.Places.{places, rest, owner, next_code}
use Rattle.grammar.proofs.Lists.{never}
use Rattle.grammar.proofs.Picks.{pick_both}
use Rattle.grammar.proofs.Places.{rest_fits, code_complete, code_sign}
use Rattle.grammar.proofs.Sizes.{sizes}
use Rattle.items.specs.Items.{Valid}
use Rattle.items.specs.Sets.{stackable, set_of, reduce_at, shift_at}
use Rattle.items.proofs.StackSymbols.{all_stackable}
use Rattle.items.proofs.Items.{Due, next_fits}
use Rattle.items.proofs.Fits.{stack_fits}
use Rattle.items.proofs.SetsSound.{set_sound}
use Rattle.items.proofs.SetsComplete.{place_of_valid, set_complete}

-- ---- the first number that passes a test

module _ (test : ℕ → Bool) (value : ℕ → ℕ) where
  abbrev first_step : ℕ → List ℕ → List ℕ
  first_step p found = pick (none_of found && test p) (value p ∷ []) found

  abbrev Found : ℕ → List ℕ → Type 0
  Found n found = (r : ℕ) (rs : List ℕ) → found ≡ r ∷ rs → (p : ℕ) × (p < n) × (test p ≡ true) × (value p ≡ r)

  first_found : (n : ℕ) → Found n (counted n first_step [])
  first_found n =
      counted_keeps (Found n) first_step n
      (λ p found h so. pick_both (none_of found && test p) (value p ∷ []) found (Found n)
      (λ b r rs e. (p, h, (and_parts (none_of found) (test p) b).1, cc)) (λ _. so))
      [] (λ r rs e. never (cc))

  none_so_far : (p : ℕ) (found : List ℕ) → first_step p found ≡ [] → (found ≡ []) × (test p ≡ false)
  unfolding none_of
  none_so_far p [] e = (refl, go (test p) e)
    where
      go : (b : Bool) → pick b (value p ∷ []) [] ≡ [] → b ≡ false
      go true e = never (cc)
      go false e = refl
  none_so_far p (x ∷ xs) e = never (cc)

  none_found : (n : ℕ) → counted n first_step [] ≡ [] → (p : ℕ) → p < n → test p ≡ false
  unfolding counted
  none_found zero e p h = absurd (omega arith)
  none_found (suc n) e p h =
      let k = none_so_far n (counted n first_step []) e in
      ⊎_elim (λ i. ap test i ∙ k.1) (λ i. none_found n k.0 p (omega arith)) (cases_eq p n)

-- whether any number passes
module _ (test : ℕ → Bool) where
  abbrev any_step : ℕ → Bool → Bool
  any_step p found = pick (test p) true found

  abbrev Some : ℕ → Bool → Type 0
  Some n found = found ≡ true → (p : ℕ) × (p < n) × (test p ≡ true)

  any_found : (n : ℕ) → Some n (counted n any_step false)
  any_found n =
      counted_keeps (Some n) any_step n
      (λ p found h so. pick_both (test p) true found (Some n) (λ b _. (p, h, b)) (λ _. so))
      false (λ e. absurd (false≢true e))

  pick_parts : (a b : Bool) → pick a true b ≡ false → (b ≡ false) × (a ≡ false)
  pick_parts true b e = absurd (true≢false e)
  pick_parts false b e = (e, refl)

  any_none : (n : ℕ) → counted n any_step false ≡ false → (p : ℕ) → p < n → test p ≡ false
  unfolding counted
  any_none zero e p h = absurd (omega arith)
  any_none (suc n) e p h =
      let k = pick_parts (test n) (counted n any_step false) e in
      ⊎_elim (λ i. ap test i ∙ k.1) (λ i. any_none n k.0 p (omega arith)) (cases_eq p n)

-- ---- actions

module _ (g : Grammar) (fits : a_grammar g ≡ true) (useful : AllUseful g) (γ : List Sym) (known : every stackable γ ≡ true) (t : ℕ) where
  abbrev items : List ℕ
  items = set_of g γ

  -- the tests of one place
  abbrev complete_with : ℕ → Bool
  complete_with p = eqb (next_code (rest g p)) 64 && has_bit t (get_or items p 0)

  abbrev has_next : ℕ → Bool
  has_next p = eqb (next_code (rest g p)) t && not (eqb (get_or items p 0) 0)

  pub reduce_sound : (r : ℕ) (rs : List ℕ) → reduce_at g items t ≡ r ∷ rs → Valid g γ r [] t
  unfolding reduce_at
  reduce_sound r rs e =
      let f = first_found complete_with (owner g) (places g) r rs e in
      let b = and_parts (eqb (next_code (rest g f.0)) 64) (has_bit t (get_or items f.0 0)) f.2 in
      let done = code_complete (rest g f.0) (rest_fits g f.0 fits) (eqb-true _ _ b.0) in
      subst₂ (λ k δ. Valid g γ k δ t) f.3 done (set_sound g fits useful γ known f.0 t b.1)

  pub reduce_complete : reduce_at g items t ≡ [] → (r : ℕ) → Valid g γ r [] t → ⊥
  unfolding reduce_at next_code
  reduce_complete e r v =
      let a = place_of_valid g fits v in
      let b = set_complete g fits γ known r [] t v a.0 a.1 in
      let c : eqb (next_code (rest g a.0)) 64 ≡ true = eq-eqb _ _ (ap next_code a.1.rests) in
      both_ways _ (none_found complete_with (owner g) (places g) e a.0 a.1.within) (and_from _ _ c b)

  pub shift_sound : shift_at g items t ≡ true → Due g γ (sign t)
  unfolding shift_at
  shift_sound e =
      let f = any_found (λ p. ltb t 24 && has_next p) (places g) e in
      let k = and_parts (ltb t 24) (has_next f.0) f.2 in
      let b = and_parts (eqb (next_code (rest g f.0)) t) (not (eqb (get_or items f.0 0) 0)) k.1 in
      let same : next_code (rest g f.0) ≡ t = eqb-true _ _ b.0 in
      let n = code_sign (rest g f.0) (omega (arith, same, ltb-true t 24 k.0)) in
      let row : rest g f.0 ≡ sign t ∷ n.0 = n.1 ∙ ap (λ c. sign c ∷ n.0) same in
      let u = nonzero_has (get_or items f.0 0) (eqb-false _ _ (not-true _ b.1)) in
      (owner g f.0, n.0, u.0, subst (λ δ. Valid g γ (owner g f.0) δ u.0) row (set_sound g fits useful γ known f.0 u.0 u.1))

  pub shift_complete : shift_at g items t ≡ false → Due g γ (sign t) → ⊥
  unfolding shift_at next_code sym_spelled sym_fits
  shift_complete e (r, β, u, v) =
      let a = place_of_valid g fits v in
      let b = set_complete g fits γ known r (sign t ∷ β) u v a.0 a.1 in
      let c : eqb (next_code (rest g a.0)) t ≡ true = eq-eqb _ _ (ap next_code a.1.rests) in
      let w : not (eqb (get_or items a.0 0) 0) ≡ true = not_from_false _ (ne_eqb _ _ (has_nonzero _ u b)) in
      let l : ltb t 24 ≡ true = next_fits g (sizes g fits) v in
      both_ways _ (any_none (λ p. ltb t 24 && has_next p) (places g) e a.0 a.1.within) (and_from _ _ l (and_from _ _ c w))

-- ---- what can be done is decided

abbrev pub Decided : Grammar → List Sym → ℕ → Type 0
Decided g γ t = ((r : ℕ) × Valid g γ r [] t) ⊎ (((r : ℕ) → Valid g γ r [] t → ⊥) × (Due g γ (sign t) ⊎ (Due g γ (sign t) → ⊥)))

pub decided : (g : Grammar) → a_grammar g ≡ true → AllUseful g → (γ : List Sym) (t : ℕ) → Decided g γ t
decided g fits useful γ t =
    ⊎_elim (λ known. reduces known (reduce_at g (set_of g γ) t) refl) (λ e. inr (λ r v. stray e v, inr (λ d. stray e d.3))) (cases_Bool (every stackable γ))
  where
    stray : every stackable γ ≡ false → {r : ℕ} {β : List Sym} {u : ℕ} → Valid g γ r β u → ⊥
    stray e v = both_ways _ e (all_stackable γ (stack_fits g (sizes g fits) v))

    shifts : every stackable γ ≡ true → Due g γ (sign t) ⊎ (Due g γ (sign t) → ⊥)
    shifts known =
        ⊎_elim (λ e. inl (shift_sound g fits useful γ known t e)) (λ e. inr (shift_complete g fits useful γ known t e)) (cases_Bool (shift_at g (set_of g γ) t))

    reduces : every stackable γ ≡ true → (found : List ℕ) → reduce_at g (set_of g γ) t ≡ found → Decided g γ t
    reduces known [] e = inr (reduce_complete g fits useful γ known t e, shifts known)
    reduces known (r ∷ rs) e = inl (r, reduce_sound g fits useful γ known t r rs e)
