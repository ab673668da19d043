-- What a rule begun at a place has ahead, in words, is FIRST of what stands behind its name.
use Rattle.std.proofs.Common.{◌≡◌, ℕ, ◌^◌, ◌<◌, true, eqb, List, [], ◌∷◌, drop, sym, refl, ap, ◌∙◌, subst, inl, inr, ⊎_elim, arith}
use lib.Bits.{bit_or}
use Rattle.std.proofs.lemmas.Bool.{or_cases, or_left, or_right, both_ways, eqb-true, eq-eqb, eqb-false, ne_eqb}
use Rattle.words.specs.Bits.{has_bit}
use Rattle.words.proofs.BitLaws.{has_or, has_zero, nonzero_has, has_nonzero}
use Rattle.grammar.specs.Grammar.{pick, Sym, sign, name, Grammar, a_grammar}
use Rattle.grammar.specs.First.{Vanishes, Opens}
use Rattle.grammar.specs.Places.{rest}
use Rattle.grammar.specs.Rows.{begins_with}
use Rattle.grammar.specs.Analysis.{behind, passes}
use Rattle.grammar.proofs.Lists.{never}
use Rattle.grammar.proofs.FirstKnown.{first_known}
use Rattle.grammar.proofs.Picks.{pick_true, pick_false, pick_both}
use Rattle.items.specs.First.{InFirst}
use Rattle.items.specs.Sets.{begun_ahead}

-- the test that a name is next
pub next_name : (n : ℕ) (β : List Sym) → begins_with n β ≡ true → β ≡ name n ∷ drop 1 β
unfolding begins_with
next_name n [] h = never (cc)
next_name n (sign t ∷ β) h = never (cc)
next_name n (name m ∷ β) h = ap (λ k. name k ∷ β) (sym (eqb-true n m h))

pub begins_with_name : (n : ℕ) {β δ : List Sym} → β ≡ name n ∷ δ → begins_with n β ≡ true
unfolding begins_with
begins_with_name n e = ap (begins_with n) e ∙ eq-eqb n n refl

module _ (g : Grammar) (fits : a_grammar g ≡ true) (p : ℕ) where
  pub behind_below : behind g p < 2 ^ 25
  behind_below = omega (arith, (first_known g fits).behind_below p)

  module _ (n : ℕ) (β : List Sym) (e : rest g p ≡ name n ∷ β) where
    is_behind : drop 1 (rest g p) ≡ β
    is_behind = ap (drop 1) e

    opens_behind : (u : ℕ) → (has_bit u (behind g p) ≡ true → Opens g β u) × (Opens g β u → has_bit u (behind g p) ≡ true)
    opens_behind u =
        let k = first_known g fits in
        (λ h. subst (λ δ. Opens g δ u) is_behind (k.behind_opens p u h), λ o. k.opens_behind p u (subst (λ δ. Opens g δ u) (sym is_behind) o))

    vanishes_behind_lem : (passes g p ≡ true → Vanishes g β) × (Vanishes g β → passes g p ≡ true)
    vanishes_behind_lem =
        let k = first_known g fits in
        (λ h. subst (λ δ. Vanishes g δ) is_behind (k.passes_vanishes p h), λ v. k.vanishes_passes p (subst (λ δ. Vanishes g δ) (sym is_behind) v))

    pub begun_of_first : (w t u : ℕ) → has_bit t w ≡ true → InFirst g β t u → has_bit u (begun_ahead g p w) ≡ true
    begun_of_first w t u h i =
        ap (has_bit u) (pick_false (eqb w 0) 0 (bit_or (behind g p) (pick (passes g p) w 0)) (ne_eqb w 0 (has_nonzero w t h)))
        ∙ has_or u (behind g p) (pick (passes g p) w 0)
        ∙ ⊎_elim
        (λ o. or_left _ _ ((opens_behind u).1 o))
        (λ v. or_right _ _ (ap (has_bit u) (pick_true (passes g p) w 0 (vanishes_behind_lem.1 v.0)) ∙ ap (λ k. has_bit k w) v.1 ∙ h))
        i

    pub first_of_begun : (w u : ℕ) → has_bit u (begun_ahead g p w) ≡ true → (t : ℕ) × (has_bit t w ≡ true) × InFirst g β t u
    first_of_begun w u =
        pick_both (eqb w 0) 0 (bit_or (behind g p) (pick (passes g p) w 0)) (λ m. has_bit u m ≡ true → (t : ℕ) × (has_bit t w ≡ true) × InFirst g β t u)
        (λ _ h. absurd (both_ways _ (has_zero u) h))
        (λ b h. ⊎_elim
        (λ o. let k = nonzero_has w (eqb-false w 0 b) in (k.0, k.1, inl ((opens_behind u).0 o)))
        (λ x. passed x)
        (or_cases _ _ (sym (has_or u (behind g p) (pick (passes g p) w 0)) ∙ h)))
      where
        passed : has_bit u (pick (passes g p) w 0) ≡ true → (t : ℕ) × (has_bit t w ≡ true) × InFirst g β t u
        passed =
            pick_both (passes g p) w 0 (λ m. has_bit u m ≡ true → (t : ℕ) × (has_bit t w ≡ true) × InFirst g β t u)
            (λ v h. (u, h, inr (vanishes_behind_lem.0 v, refl)))
            (λ _ h. absurd (both_ways _ (has_zero u) h))
