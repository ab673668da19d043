-- The first clash among the pairs is a conflict of items, and where there is none no items conflict.
use Rattle.std.proofs.Common.{◌≡◌, ℕ, zero, suc, ◌^◌, ◌<◌, Bool, true, false, eqb, ltb, ◌⊎◌, List, [], ◌∷◌, get_or, sym, refl, ap, ◌∙◌, subst, subst₂, inl, inr, ⊎_elim, arith, lit<}
use mathlib.Core.Bool.{false≢true}
use lib.Bits.{bit_and}
use lib.Count.{count_trailing_zeros}
use Rattle.std.proofs.lemmas.Nat.{and_le_l, mod_below}
use Rattle.std.proofs.lemmas.Bool.{and_parts, and_from, cases_eq, eqb-true, eqb-false, eq-eqb, ne_eqb, ltb-true, lt-ltb}
use Rattle.words.specs.Bits.{has_bit}
use Rattle.words.specs.Iter.{counted}
use Rattle.words.proofs.BitLaws.{has_and, has_pow, has_zero, trailing_has}
use Rattle.grammar.specs.Grammar.{pick, Sym, sign, Grammar, a_grammar, AllUseful, Clash, Clashes, Enough}
use Rattle.grammar.specs.Spelling.{sym_spelled}
use Rattle.grammar.specs.Places.{places, rest, owner, next_code}
use Rattle.grammar.proofs.Lists.{never}
use Rattle.grammar.proofs.Places.{place_once, rest_fits, code_range, code_sign, code_complete}
use Rattle.grammar.proofs.FirstKnown.{FirstKnown, first_known}
use Rattle.conflicts.specs.Conflicts.{Both}
use Rattle.conflicts.specs.Pairs.{pair, own_part, both_part, pairs, clash_mask, clash_at, earlier, clash_in_row_lem, clash_of}
use Rattle.conflicts.specs.Statements.{Conflict, by_reduce, by_shift, ClashesAreConflicts, ClashIsFound}
use Rattle.conflicts.proofs.Enough.{clashes_are_conflicts_lem}
use Rattle.conflicts.proofs.PairWords.{own_has, both_has, both_below}
use Rattle.conflicts.proofs.PairMeaning.{own_means, both_means, SoundWords}
use Rattle.conflicts.proofs.PairSound.{pairs_sound}
use Rattle.conflicts.proofs.PairFixpoint.{pairs_good}
use Rattle.conflicts.proofs.PairComplete.{Held, pairs_complete}

-- ---- the first of many

none_earlier : (c d : List Clash) → earlier c d ≡ [] → (c ≡ []) × (d ≡ [])
unfolding earlier
none_earlier [] d h = (refl, h)
none_earlier (x ∷ c) d h = never (cc)

some_earlier : (x : Clash) (xs c d : List Clash) → earlier c d ≡ x ∷ xs → ((ys : List Clash) × (c ≡ x ∷ ys)) ⊎ ((ys : List Clash) × (d ≡ x ∷ ys))
unfolding earlier
some_earlier x xs [] d h = inr (xs, h)
some_earlier x xs (y ∷ c) d h = let e : y ≡ x = cc in inl (c, ap (λ z. z ∷ c) e)

module _ (f : ℕ → List Clash) where
  none_among : (n : ℕ) → counted n (λ k c. earlier c (f k)) [] ≡ [] → (k : ℕ) → k < n → f k ≡ []
  unfolding counted
  none_among zero e k l = absurd (omega arith)
  none_among (suc n) e k l =
      let h = none_earlier (counted n (λ k c. earlier c (f k)) []) (f n) e in
      ⊎_elim (λ i. ap f i ∙ h.1) (λ i. none_among n h.0 k (omega arith)) (cases_eq k n)

  some_among : (x : Clash) (n : ℕ) (xs : List Clash) → counted n (λ k c. earlier c (f k)) [] ≡ x ∷ xs → (k : ℕ) × (k < n) × ((ys : List Clash) × (f k ≡ x ∷ ys))
  unfolding counted
  some_among x zero xs e = never (cc)
  some_among x (suc n) xs e =
      ⊎_elim (λ h. let k = some_among x n h.0 h.1 in (k.0, omega (arith, k.1), k.2)) (λ h. (n, omega arith, h))
      (some_earlier x xs (counted n (λ k c. earlier c (f k)) []) (f n) e)

-- ---- what a mask that is not 0 says

module _ (complete other_complete same signs : Bool) (x y : ℕ) where
  abbrev masked : ℕ
  masked = pick complete (pick other_complete (pick same 0 x) (pick signs y 0)) 0

masked_cases : (a b c d : Bool) (x y : ℕ) → (masked a b c d x y ≡ 0 → ⊥) →
    (a ≡ true) × (((b ≡ true) × (c ≡ false) × (masked a b c d x y ≡ x)) ⊎ ((b ≡ false) × (d ≡ true) × (masked a b c d x y ≡ y)))
masked_cases false b c d x y n = absurd (n refl)
masked_cases true true true d x y n = absurd (n refl)
masked_cases true true false d x y n = (refl, inl (refl, refl, refl))
masked_cases true false c true x y n = (refl, inr (refl, refl, refl))
masked_cases true false c false x y n = absurd (n refl)

masked_reduce : (a b c d : Bool) (x y : ℕ) → a ≡ true → b ≡ true → c ≡ false → masked a b c d x y ≡ x
masked_reduce a b c d x y ea eb ec = rw (ea, eb, ec)

masked_shift : (a b c d : Bool) (x y : ℕ) → a ≡ true → b ≡ false → d ≡ true → masked a b c d x y ≡ y
masked_shift a b c d x y ea eb ed = rw (ea, eb, ed)

none_picked : (b : Bool) (x : Clash) → pick b [] (x ∷ []) ≡ [] → b ≡ true
none_picked true x e = refl
none_picked false x e = never (cc)

some_picked : (b : Bool) (x y : Clash) (ys : List Clash) → pick b [] (x ∷ []) ≡ y ∷ ys → (b ≡ false) × (x ≡ y)
some_picked true x y ys e = never (cc)
some_picked false x y ys e = (refl, cc)

module _ (g : Grammar) (fits : a_grammar g ≡ true) (w : List ℕ) where
  abbrev word : ℕ → ℕ → ℕ
  word p q = get_or w (pair p q) 0

  -- A CLASH AT p AND q IS A CONFLICT
  module _ (sound : SoundWords g w) (below : (i : ℕ) → get_or w i 0 < 2 ^ 64) (p q : ℕ) (hp : p < places g) (hq : q < places g) where
    abbrev found : Bool → ℕ → Clash
    found b m = record { due = owner g p; other = pick b (owner g q) 64; ahead = count_trailing_zeros 64 m }

    two_complete : (m : ℕ) → m ≡ both_part (word p q) → (m ≡ 0 → ⊥) → next_code (rest g p) ≡ 64 → next_code (rest g q) ≡ 64 → (p ≡ q → ⊥) → Conflict g (found true m)
    two_complete m e n cp cq ne =
        let rp = code_complete (rest g p) (rest_fits g p fits) cp in
        let rq = code_complete (rest g q) (rest_fits g q fits) cq in
        let l : m < 2 ^ 64 = omega (arith, e, both_below (word p q) (below (pair p q))) in
        let t = count_trailing_zeros 64 m in
        let h : has_bit t (both_part (word p q)) ≡ true = subst (λ x. has_bit t x ≡ true) e (trailing_has 64 m l (omega (arith, n))) in
        by_reduce (ne_eqb (owner g q) (owner g p) (λ o. ne (place_once g p q hp hq (sym o) (rp ∙ sym rq))))
        (subst₂ (λ β α. Both g (owner g p) β t (owner g q) α t) rp rq (both_means g p q (word p q) (sound p q hp hq) t h))

    before_sign : (m : ℕ) → m ≡ bit_and (own_part (word p q)) (2 ^ next_code (rest g q)) → (m ≡ 0 → ⊥) → next_code (rest g p) ≡ 64 → next_code (rest g q) < 24 →
        Conflict g (found false m)
    before_sign m e n cp lq =
        let rp = code_complete (rest g p) (rest_fits g p fits) cp in
        let rq = code_sign (rest g q) (omega arith) in
        let l : m < 2 ^ 64 = omega (arith, e, and_le_l (own_part (word p q)) (2 ^ next_code (rest g q)), mod_below (word p q) (2 ^ 25) (lit< tt)) in
        let t = count_trailing_zeros 64 m in
        let h : has_bit t (bit_and (own_part (word p q)) (2 ^ next_code (rest g q))) ≡ true = subst (λ x. has_bit t x ≡ true) e (trailing_has 64 m l (omega (arith, n))) in
        let k = and_parts (has_bit t (own_part (word p q))) (has_bit t (2 ^ next_code (rest g q))) (sym (has_and t (own_part (word p q)) (2 ^ next_code (rest g q))) ∙ h) in
        let z : next_code (rest g q) ≡ t = sym (eqb-true t (next_code (rest g q)) (sym (has_pow t (next_code (rest g q))) ∙ k.1)) in
        let b = own_means g p q (word p q) (sound p q hp hq) t k.0 in
        by_shift refl (subst₂ (λ β α. Both g (owner g p) β t (owner g q) α b.0) rp (rq.1 ∙ ap (λ x. sign x ∷ rq.0) z) b.1)

    conflict_at : (c : Clash) (cs : List Clash) → clash_at g w p q ≡ c ∷ cs → Conflict g c
    conflict_at c cs e =
        let k = some_picked (eqb (clash_mask g w p q) 0) (found (eqb (next_code (rest g q)) 64) (clash_mask g w p q)) c cs e in
        let n = eqb-false (clash_mask g w p q) 0 k.0 in
        let m = masked_cases (eqb (next_code (rest g p)) 64) (eqb (next_code (rest g q)) 64) (eqb p q) (ltb (next_code (rest g q)) 24) (both_part (word p q))
        (bit_and (own_part (word p q)) (2 ^ next_code (rest g q))) n in
        let cp = eqb-true (next_code (rest g p)) 64 m.0 in
        subst (Conflict g) k.1
        (⊎_elim
        (λ h. subst (λ b. Conflict g (found b (clash_mask g w p q))) (sym h.0)
        (two_complete (clash_mask g w p q) h.2 n cp (eqb-true (next_code (rest g q)) 64 h.0) (eqb-false p q h.1)))
        (λ h. subst (λ b. Conflict g (found b (clash_mask g w p q))) (sym h.0)
        (before_sign (clash_mask g w p q) h.2 n cp (ltb-true (next_code (rest g q)) 24 h.1)))
        m.1)

  -- NO CLASH, NO CONFLICT
  module _ (p q t u : ℕ) (h : Held w p t q u) (complete : rest g p ≡ []) (none : clash_at g w p q ≡ []) where
    code_p : eqb (next_code (rest g p)) 64 ≡ true
    unfolding next_code
    code_p = eq-eqb (next_code (rest g p)) 64 (ap next_code complete)

    mask_none : clash_mask g w p q ≡ 0
    mask_none = eqb-true (clash_mask g w p q) 0 (none_picked (eqb (clash_mask g w p q) 0) _ none)

    no_bit : (m : ℕ) → clash_mask g w p q ≡ m → has_bit t m ≡ true → ⊥
    no_bit m e b = false≢true (sym (ap (has_bit t) (sym e ∙ mask_none) ∙ has_zero t) ∙ b)

    no_reduce : rest g q ≡ [] → (p ≡ q → ⊥) → t ≡ u → ⊥
    unfolding next_code
    no_reduce rq ne e =
        no_bit (both_part (word p q))
        (masked_reduce _ _ _ (ltb (next_code (rest g q)) 24) _ (bit_and (own_part (word p q)) (2 ^ next_code (rest g q))) code_p
        (eq-eqb (next_code (rest g q)) 64 (ap next_code rq)) (ne_eqb p q ne))
        (both_has t (word p q) ∙ h.left_both e)

    no_shift : (β : List Sym) → rest g q ≡ sign t ∷ β → ⊥
    unfolding next_code sym_spelled
    no_shift β rq =
        let e : next_code (rest g q) ≡ t = ap next_code rq in
        let l : next_code (rest g q) < 24 =
        elim (code_range (rest g q) (rest_fits g q fits)) [
          | inl k ↦ k
          | inr (inl k) ↦ absurd (omega (arith, k.0, e, h.left_below))
          | inr (inr k) ↦ absurd (omega (arith, k, e, h.left_below))
        ] in
        no_bit (bit_and (own_part (word p q)) (2 ^ next_code (rest g q)))
        (masked_shift _ _ (eqb p q) _ (both_part (word p q)) _ code_p (ne_eqb (next_code (rest g q)) 64 (λ z. omega arith)) (lt-ltb (next_code (rest g q)) 24 l))
        (has_and t (own_part (word p q)) (2 ^ next_code (rest g q))
        ∙ and_from _ _ (own_has t (word p q) h.left_below ∙ h.left_own) (has_pow t (next_code (rest g q)) ∙ eq-eqb t (next_code (rest g q)) (sym e)))

-- ---- the clash of a grammar

module _ (g : Grammar) (fits : a_grammar g ≡ true) (useful : AllUseful g) where
  known : FirstKnown g
  known = first_known g fits

  pub clash_some : (c : Clash) (cs : List Clash) → clash_of g ≡ c ∷ cs → Clashes g c
  unfolding ClashesAreConflicts clash_of
  clash_some c cs e =
      let i = some_among (clash_in_row_lem g (pairs g)) c (places g) cs e in
      let j = some_among (clash_at g (pairs g) i.0) c (places g) i.2.0 i.2.1 in
      (clashes_are_conflicts_lem g c fits).1 useful
      (conflict_at g fits (pairs g) (pairs_sound g fits useful known) (pairs_good g known).words.1 i.0 j.0 i.1 j.1 c j.2.0 j.2.1)

  pub clash_none : clash_of g ≡ [] → Enough g
  unfolding ClashesAreConflicts clash_of Enough
  clash_none e c k = absurd (go ((clashes_are_conflicts_lem g c fits).0 k))
    where
      none : (p q : ℕ) → p < places g → q < places g → clash_at g (pairs g) p q ≡ []
      none p q hp hq = none_among (clash_at g (pairs g) p) (places g) (none_among (clash_in_row_lem g (pairs g)) (places g) e p hp) q hq

      go : Conflict g c → ⊥
      go (by_reduce ne b) =
          let (i, j, x, y, h) = pairs_complete g fits known b in
          no_reduce g fits (pairs g) i j c.ahead c.ahead h x.rests (none i j x.within y.within) y.rests
          (λ z. eqb-false c.other c.due ne (sym y.owned ∙ ap (owner g) (sym z) ∙ x.owned)) refl
      go (by_shift {β = β} {u = u} o b) =
          let (i, j, x, y, h) = pairs_complete g fits known b in
          no_shift g fits (pairs g) i j c.ahead u h x.rests (none i j x.within y.within) β y.rests

pub clash_found_lem : ClashIsFound
unfolding ClashIsFound Enough
clash_found_lem g fits useful = ((clash_none g fits useful, λ h. go h (clash_of g) refl), clash_some g fits useful)
  where
    go : Enough g → (cs : List Clash) → clash_of g ≡ cs → cs ≡ []
    go h [] e = refl
    go h (c ∷ cs) e = never (h c (clash_some g fits useful c cs e))
