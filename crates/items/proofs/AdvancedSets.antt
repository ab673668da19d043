-- Places one on: what stands behind a symbol in the set that is advanced over it.
--     next_from_code      the byte of a symbol tells which is next
--     advanced_shape      the advanced set is an item set
--     advanced_word, advanced_cases      it has what stood before the symbol, one place on, and nothing else
use Rattle.std.proofs.Common.{◌≡◌, ℕ, zero, suc, ◌<◌, true, eqb, List, [], ◌∷◌, length, get_or, set, sym, ap, ◌∙◌, ⊎_elim, arith}
use Rattle.std.proofs.lemmas.List.{set_past, get_or-set_same, get_or-set_other, length-set, length-replicate}
use Rattle.std.proofs.lemmas.Bool.{and_parts, cases_lt, cases_eq, eqb-true, eq-eqb, both_ways}
use Rattle.words.specs.Bits.{has_bit}
use Rattle.words.specs.Iter.{counted}
use Rattle.words.proofs.BitLaws.{has_zero}
use Rattle.words.proofs.Fixpoint.{counted_keeps}
use Rattle.grammar.specs.Grammar.{every, Sym, Grammar, sym_fits, a_grammar}
use Rattle.grammar.specs.Spelling.{sym_spelled}
use Rattle.grammar.specs.Places.{places, rest, next_code}
use Rattle.grammar.proofs.Picks.{pick_true, pick_both}
use Rattle.grammar.proofs.Places.{place_next, rest_fits}
use Rattle.items.specs.Sets.{no_items, stackable, advance_place_lem, advanced_set, IsItemSet}
use Rattle.items.proofs.StackSymbols.{fits_stackable, code_below, code_once}
use Rattle.items.proofs.ClosedSets.{nothing_in_none, item_set_none, item_set_put}

-- the byte of a symbol says which is next
pub next_from_code : (x : Sym) (β : List Sym) → stackable x ≡ true → every sym_fits β ≡ true → next_code β ≡ sym_spelled x → (δ : List Sym) × (β ≡ x ∷ δ)
unfolding next_code every
next_from_code x [] h k e = absurd (omega (arith, code_below x h))
next_from_code x (y ∷ β) h k e = (β, ap (λ z. z ∷ β) (code_once y x (fits_stackable y (and_parts (sym_fits y) (every sym_fits β) k).0) h e))

module _ (g : Grammar) (fits : a_grammar g ≡ true) (x : Sym) (known : stackable x ≡ true) where
  -- a place before x has one behind x
  pub suc_within : (p : ℕ) → next_code (rest g p) ≡ sym_spelled x → suc p < places g
  suc_within p e =
      let n = next_from_code x (rest g p) known (rest_fits g p fits) e in
      (place_next g p x n.0 n.1).within

  pub advanced_shape : (s : List ℕ) → IsItemSet g s → IsItemSet g (advanced_set g (sym_spelled x) s)
  unfolding advanced_set
  advanced_shape s i =
      counted_keeps (IsItemSet g) (advance_place_lem g (sym_spelled x) s) (places g)
      (λ p u _ iu. pick_both _ _ _ (IsItemSet g)
      (λ b. item_set_put iu (suc p) (get_or s p 0) (suc_within p (eqb-true _ _ b)) (i.fits p))
      (λ _. iu))
      no_items (item_set_none g)

-- where a bit of the advanced set comes from
pub record ComesFrom (g : Grammar) (c : ℕ) (s : List ℕ) (q t : ℕ) : Type 0 where
  pub place : ℕ
  pub within : place < places g
  pub one_on : q ≡ suc place
  pub next : next_code (rest g place) ≡ c
  pub bit : has_bit t (get_or s place 0) ≡ true

module _ (g : Grammar) (c : ℕ) (s : List ℕ) where
  abbrev From : List ℕ → Type 0
  From u = (q t : ℕ) → has_bit t (get_or u q 0) ≡ true → ComesFrom g c s q t

  put_from : (p : ℕ) (u : List ℕ) → p < places g → next_code (rest g p) ≡ c → From u → From (set u (suc p) (get_or s p 0))
  put_from p u lp e f q t h =
      ⊎_elim
      (λ l. ⊎_elim
      (λ i. record {
        place = p;
        within = lp;
        one_on = i;
        next = e;
        bit = ap (has_bit t) (sym (get_or-set_same u (suc p) (get_or s p 0) 0 l)) ∙ ap (λ k. has_bit t (get_or (set u (suc p) (get_or s p 0)) k 0)) (sym i) ∙ h;
      })
      (λ n. f q t (ap (has_bit t) (sym (get_or-set_other u (suc p) q (get_or s p 0) 0 n)) ∙ h))
      (cases_eq q (suc p)))
      (λ l. f q t (ap (λ y. has_bit t (get_or y q 0)) (sym (set_past u (suc p) (get_or s p 0) l)) ∙ h))
      (cases_lt (suc p) (length u))

  pub advanced_cases : (q t : ℕ) → has_bit t (get_or (advanced_set g c s) q 0) ≡ true → ComesFrom g c s q t
  unfolding advanced_set
  advanced_cases =
      counted_keeps From (advance_place_lem g c s) (places g)
      (λ p u lp f. pick_both _ _ _ From (λ b. put_from p u lp (eqb-true _ _ b) f) (λ _. f))
      no_items (λ q t h. absurd (both_ways _ (ap (has_bit t) (nothing_in_none q) ∙ has_zero t) h))

  -- what is put one place on stays there: no other place is put there
  module _ (p : ℕ) (e : next_code (rest g p) ≡ c) (l : suc p < 192) where
    abbrev There : List ℕ → Type 0
    There u = get_or u (suc p) 0 ≡ get_or s p 0

    stays : (k : ℕ) (u : List ℕ) → p < k → There u → There (advance_place_lem g c s k u)
    stays k u h there =
        pick_both (eqb (next_code (rest g k)) c) (set u (suc k) (get_or s k 0)) u There
        (λ _. get_or-set_other u (suc k) (suc p) (get_or s k 0) 0 (λ i. omega (arith, i)) ∙ there) (λ _. there)

    puts : (k : ℕ) (u : List ℕ) → p ≡ k → length u ≡ 192 → There (advance_place_lem g c s k u)
    puts k u i long =
        let b : eqb (next_code (rest g k)) c ≡ true = eq-eqb _ _ (ap (λ j. next_code (rest g j)) (sym i) ∙ e) in
        let within : suc k < length u = omega (arith, long, i) in
        ap (λ y. get_or y (suc p) 0) (pick_true (eqb (next_code (rest g k)) c) (set u (suc k) (get_or s k 0)) u b)
        ∙ ap (λ j. get_or (set u (suc k) (get_or s k 0)) (suc j) 0) i ∙ get_or-set_same u (suc k) (get_or s k 0) 0 within ∙ ap (λ j. get_or s j 0) (sym i)

    long_so_far : (n : ℕ) → length (counted n (advance_place_lem g c s) no_items) ≡ 192
    long_so_far n =
        counted_keeps (λ u. length u ≡ 192) (advance_place_lem g c s) n
        (λ k u _ long. pick_both (eqb (next_code (rest g k)) c) (set u (suc k) (get_or s k 0)) u (λ y. length y ≡ 192) (λ _. length-set u (suc k) (get_or s k 0) ∙ long) (λ _. long))
        no_items (length-replicate {A = ℕ} 192 0)

    comes : (n : ℕ) → p < n → There (counted n (advance_place_lem g c s) no_items)
    unfolding counted
    comes zero h = absurd (omega arith)
    comes (suc n) h =
        ⊎_elim (λ i. puts n (counted n (advance_place_lem g c s) no_items) i (long_so_far n))
        (λ i. let k : p < n = omega arith in stays n (counted n (advance_place_lem g c s) no_items) k (comes n k))
        (cases_eq p n)

  pub advanced_word : (p : ℕ) → p < places g → next_code (rest g p) ≡ c → suc p < 192 → get_or (advanced_set g c s) (suc p) 0 ≡ get_or s p 0
  unfolding advanced_set
  advanced_word p h e l = comes p e l (places g) h
