-- The signs before which there is an action: at one place by its symbol and its word, and from place to place.
use Rattle.std.proofs.Common.{◌≡◌, ℕ, ◌+◌, ◌<◌, ◌≤◌, Bool, true, false, not, ◌&&◌, ◌||◌, eqb, ltb, List, [], ◌∷◌, sym, refl, ap, ◌∙◌, ap₂, ⊎_elim, slice_index, arith}
use lib.Bits.{bit_or}
use Rattle.std.proofs.lemmas.Bool.{and_right, cases_eq, lt-ltb, eq-eqb, ne_eqb}
use Rattle.words.specs.Bits.{has_bit, bit_of}
use Rattle.words.specs.Iter.{counted}
use Rattle.words.proofs.BitLaws.{has_or, has_zero, has_bit_of}
use Rattle.words.proofs.Fixpoint.{counted_more}
use Rattle.grammar.specs.Grammar.{pick, none_of, Grammar}
use Rattle.grammar.specs.Places.{owner, rest, next_code}
use Rattle.items.specs.Sets.{reduce_place, shift_place}
use Rattle.items.specs.Actions.{reduces_place, shifts_place}
use Rattle.items.proofs.Codes.{past_signs}

-- ---- one place, whose byte is x and whose word is w

module _ (x w t : ℕ) where
  abbrev pub Acts : Bool
  Acts = (eqb x 64 && has_bit t w) || (ltb t 24 && (eqb x t && not (eqb w 0)))

  or_none : (b : Bool) → b ≡ (b || false)
  or_none true = refl
  or_none false = refl

  pub acts_complete : x ≡ 64 → has_bit t w ≡ Acts
  acts_complete e = or_none (has_bit t w) ∙ sym (rw (past_signs x t (not (eqb w 0)) (omega arith), eq-eqb x 64 e) refl)

  pub acts_empty : w ≡ 0 → has_bit t 0 ≡ Acts
  acts_empty e =
      has_zero t
      ∙ sym (rw (e, has_zero t, and_right (eqb x 64) false refl, and_right (eqb x t) false refl, and_right (ltb t 24) false refl) refl)

  pub acts_none : (x ≡ 64 → ⊥) → 24 ≤ x → has_bit t 0 ≡ Acts
  acts_none n h = has_zero t ∙ sym (rw (ne_eqb x 64 n, past_signs x t (not (eqb w 0)) h) refl)

  pub acts_sign : x < 24 → (w ≡ 0 → ⊥) → has_bit t (bit_of x) ≡ Acts
  acts_sign h n =
      let few : ltb x 64 ≡ true = lt-ltb x 64 (omega arith) in
      let other : eqb x 64 ≡ false = ne_eqb x 64 (λ e. omega arith) in
      has_bit_of t x
      ∙ ⊎_elim
      (λ e. let l : ltb t 24 ≡ true = lt-ltb t 24 (omega arith) in rw (few, other, ne_eqb w 0 n, l, eq-eqb t x e, eq-eqb x t (sym e)) refl)
      (λ d. rw (few, other, ne_eqb t x d, ne_eqb x t (λ e. d (sym e)), and_right (ltb t 24) false refl) refl)
      (cases_eq t x)

-- and of a place
pub acts_shown : (g : Grammar) (s : List ℕ) (p w t : ℕ) → w ≡ slice_index s p → Acts (next_code (rest g p)) w t ≡ (reduces_place g s t p || shifts_place g s t p)
acts_shown g s p w t d = ap (λ v. Acts (next_code (rest g p)) v t) d

-- ---- from place to place

swap : (a b c d : Bool) → ((a || b) || (c || d)) ≡ ((a || c) || (b || d))
swap true b c d = refl
swap false false c d = refl
swap false true true d = refl
swap false true false d = refl

reduce_or : (o : ℕ) (found : List ℕ) (b : Bool) → not (none_of (pick (none_of found && b) (o ∷ []) found)) ≡ (not (none_of found) || b)
unfolding none_of
reduce_or o [] true = refl
reduce_or o [] false = refl
reduce_or o (r ∷ rs) b = refl

shift_or : (found b : Bool) → pick b true found ≡ (found || b)
shift_or true true = refl
shift_or true false = refl
shift_or false true = refl
shift_or false false = refl

-- the places before p have an action before t
abbrev pub ActsTo : Grammar → List ℕ → ℕ → ℕ → Bool
ActsTo g s t p = not (none_of (counted p (reduce_place g s t) [])) || counted p (shift_place g s t) false

pub acts_more : (g : Grammar) (s : List ℕ) (t p m x : ℕ) → has_bit t m ≡ ActsTo g s t p →
    has_bit t x ≡ (reduces_place g s t p || shifts_place g s t p) → has_bit t (bit_or m x) ≡ ActsTo g s t (p + 1)
acts_more g s t p m x e d =
    let found = counted p (reduce_place g s t) [] in
    let shifted = counted p (shift_place g s t) false in
    has_or t m x ∙ ap₂ ◌||◌ e d ∙ swap (not (none_of found)) shifted (reduces_place g s t p) (shifts_place g s t p)
    ∙ ap₂ ◌||◌
    (sym (ap (λ rs. not (none_of rs)) (counted_more (reduce_place g s t) p []) ∙ reduce_or (owner g p) found (reduces_place g s t p)))
    (sym (counted_more (shift_place g s t) p false ∙ shift_or shifted (shifts_place g s t p)))
