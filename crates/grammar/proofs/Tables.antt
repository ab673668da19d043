-- A table that holds a grammar, with one more rule, holds the grammar with that rule behind the others.
use Rattle.std.proofs.Common.{◌≡◌, ℕ, suc, ◌+◌, ◌-◌, ◌<◌, ◌≤◌, ◌⊎◌, [], ◌∷◌, ◌++◌, length, sym, ap, ◌∙◌, inl, inr, arith, length-append}
use Rattle.std.proofs.lemmas.Bool.{cases_lt}
use Rattle.grammar.specs.declared.table.Table.{Table}
use Rattle.grammar.specs.Grammar.{each, Rule, Grammar, rule}
use Rattle.grammar.specs.Spelling.{sym_spelled}
use Rattle.grammar.specs.Places.{places, rest, owner, first_place_lem, next_code}
use Rattle.grammar.specs.Table.{Holds, Added, code_in, owner_in, first_in, left_in}
use Rattle.grammar.proofs.Spelled.{length_each}
use Rattle.grammar.proofs.Places.{rest_here, owner_here}
use Rattle.grammar.proofs.Pushed.{places_append, rest_before, owner_before, first_before, rule_before, rest_behind, owner_behind, first_behind, rule_behind, code_at}

module _ {t u : Table} {g : Grammar} (r : Rule) (h : Holds t g) (a : Added t r.left (each sym_spelled r.right) u) where
  size : places (g ++ r ∷ []) ≡ places g + suc (length r.right)
  unfolding places
  size = omega (arith, places_append g (r ∷ []))

  -- a place of the longer grammar is an old one, or one of the new rule
  old_or_new : (p : ℕ) → p < places (g ++ r ∷ []) → (p < places g) ⊎ ((d : ℕ) × (d ≤ length r.right) × (p ≡ places g + d))
  old_or_new p k =
      let s = size in
      elim (cases_lt p (places g)) [ inl l ↦ inl l | inr l ↦ inr (p - places g, omega arith, omega arith) ]

  old_or_last : (k : ℕ) → k < length (g ++ r ∷ []) → (k < length g) ⊎ (k ≡ length g)
  old_or_last k l =
      let s = length-append g (r ∷ []) in
      elim (cases_lt k (length g)) [ inl j ↦ inl j | inr j ↦ inr (omega arith) ]

  symbols_pushed : (p : ℕ) → p < places (g ++ r ∷ []) → code_in u p ≡ next_code (rest (g ++ r ∷ []) p)
  symbols_pushed p k =
      elim (old_or_new p k) [
        | inl l ↦
            let e : p < t.places = omega (arith, h.places) in
            a.symbols_kept p e ∙ h.symbols p l ∙ ap next_code (sym (rest_before g (r ∷ []) p l))
        | inr (d, l, e) ↦
            let n : d ≤ length (each sym_spelled r.right) = omega (arith, length_each sym_spelled r.right) in
            let q : p ≡ t.places + d = omega (arith, h.places) in
            ap (code_in u) q ∙ a.symbols_new d n ∙ sym (code_at d r.right)
            ∙ sym (ap next_code (ap (rest (g ++ r ∷ [])) e ∙ rest_behind g (r ∷ []) d ∙ rest_here r [] d l))
      ]

  owners_pushed : (p : ℕ) → p < places (g ++ r ∷ []) → owner_in u p ≡ owner (g ++ r ∷ []) p
  owners_pushed p k =
      elim (old_or_new p k) [
        | inl l ↦
            let e : p < t.places = omega (arith, h.places) in
            a.owners_kept p e ∙ h.owners p l ∙ sym (owner_before g (r ∷ []) p l)
        | inr (d, l, e) ↦
            let n : d ≤ length (each sym_spelled r.right) = omega (arith, length_each sym_spelled r.right) in
            let q : p ≡ t.places + d = omega (arith, h.places) in
            let o : length g + owner (r ∷ []) d ≡ length g = omega (arith, owner_here r [] d l) in
            ap (owner_in u) q ∙ a.owners_new d n ∙ h.rules
            ∙ sym (ap (owner (g ++ r ∷ [])) e ∙ owner_behind g (r ∷ []) d ∙ o)
      ]

  firsts_pushed : (k : ℕ) → k < length (g ++ r ∷ []) → first_in u k ≡ first_place_lem (g ++ r ∷ []) k
  firsts_pushed k l =
      elim (old_or_last k l) [
        | inl j ↦ a.firsts_kept k (omega (arith, h.rules)) ∙ h.firsts k j ∙ sym (first_before g (r ∷ []) k j)
        | inr e ↦
            ap (first_in u) (e ∙ sym h.rules) ∙ a.first_new ∙ h.places
            ∙ sym (ap (first_place_lem (g ++ r ∷ [])) e ∙ first_behind g r [])
      ]

  lefts_pushed : (k : ℕ) → k < length (g ++ r ∷ []) → left_in u k ≡ (rule (g ++ r ∷ []) k).left
  lefts_pushed k l =
      elim (old_or_last k l) [
        | inl j ↦ a.lefts_kept k (omega (arith, h.rules)) ∙ h.lefts k j ∙ sym (ap (λ (x : Rule). x.left) (rule_before g (r ∷ []) k j))
        | inr e ↦
            ap (left_in u) (e ∙ sym h.rules) ∙ a.left_new
            ∙ sym (ap (λ i. (rule (g ++ r ∷ []) i).left) e ∙ ap (λ (x : Rule). x.left) (rule_behind g r []))
      ]

  pub holds_push : Holds u (g ++ r ∷ [])
  holds_push = record {
    rules = omega (arith, a.rules, h.rules, length-append g (r ∷ []));
    places = omega (arith, a.places, h.places, size, length_each sym_spelled r.right);
    symbols = symbols_pushed;
    owners = owners_pushed;
    firsts = firsts_pushed;
    lefts = lefts_pushed;
  }
