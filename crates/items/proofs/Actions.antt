-- The first place with an action, and the action by what is found.
use Rattle.std.proofs.Common.{◌≡◌, ℕ, ◌+◌, ◌<◌, Bool, true, false, List, [], ◌∷◌, Some, None, Option, sym, refl, ap, ◌∙◌, arith}
use Rattle.std.specs.Bool.{then_some}
use Rattle.std.specs.Option.{option_map}
use Rattle.words.specs.Iter.{counted}
use Rattle.words.proofs.Fixpoint.{counted_still, counted_stays, counted_then}
use Rattle.grammar.specs.Grammar.{pick, none_of, Grammar}
use Rattle.grammar.specs.Places.{places, owner}
use Rattle.grammar.proofs.Lists.{never}
use Rattle.items.specs.Sets.{reduce_place, reduce_at, shift_place, shift_at}
use Rattle.items.specs.Actions.{reduces_place, shifts_place, first_rule_lem, action_of}
use Rattle.items.proofs.Below.{AnyBelow, FirstBelow}
use Rattle.items.specs.declared.sets.Action.TheVariants.{Reduce, Shift}

module _ (g : Grammar) (s : List ℕ) (t : ℕ) where
  reduce_none : (n : ℕ) → ((k : ℕ) → k < n → false ≡ reduces_place g s t k) → counted n (reduce_place g s t) [] ≡ []
  unfolding none_of
  reduce_none n misses = counted_still (reduce_place g s t) n [] (λ k l. ap (λ b. pick b (owner g k ∷ []) []) (sym (misses k l)))

  reduce_found : (p : ℕ) → ((k : ℕ) → k < p → false ≡ reduces_place g s t k) → true ≡ reduces_place g s t p → p < places g → owner g p ∷ [] ≡ reduce_at g s t
  unfolding none_of reduce_at
  reduce_found p misses d h =
      sym (counted_stays (reduce_place g s t) [] (owner g p ∷ []) (λ k. refl) (p + 1) (places g) (omega arith)
      (sym (counted_then (reduce_place g s t) p [] [] (owner g p ∷ []) (sym (reduce_none p misses)) (ap (λ b. pick b (owner g p ∷ []) []) d))))

  -- the first complete place that has the sign ahead, and its rule
  pub reduce_first : (rule_at : ℕ → ℕ) → ((p : ℕ) → p < places g → rule_at p ≡ owner g p) → (r : Option ℕ) → FirstBelow (places g) (reduces_place g s t) r →
      option_map rule_at r ≡ first_rule_lem (reduce_at g s t)
  unfolding first_rule_lem reduce_at
  reduce_first rule_at own None m = ap first_rule_lem (sym (reduce_none (places g) m))
  reduce_first rule_at own (Some p) m = ap Some (own p m.0) ∙ ap first_rule_lem (reduce_found p m.2 m.1 m.0)

  pub shift_any : (r : Bool) → AnyBelow (places g) (shifts_place g s t) r → r ≡ shift_at g s t
  unfolding shift_at
  shift_any true m =
      let found : true ≡ counted (m.0 + 1) (shift_place g s t) false =
      counted_then (shift_place g s t) m.0 false _ true refl (ap (λ b. pick b true (counted m.0 (shift_place g s t) false)) m.2) in
      sym (counted_stays (shift_place g s t) false true (λ k. always _) (m.0 + 1) (places g) (omega (arith, m.1)) (sym found))
    where
      always : (b : Bool) → pick b true true ≡ true
      always true = refl
      always false = refl
  shift_any false m = sym (counted_still (shift_place g s t) (places g) false (λ k l. ap (λ b. pick b true false) (sym (m k l))))

-- ---- by what is found

pub action_some : (r : ℕ) (rs : List ℕ) (b : Bool) → Some r ≡ first_rule_lem rs → Some (Reduce r) ≡ action_of rs b
unfolding first_rule_lem action_of
action_some r [] b e = never (cc)
action_some r (q ∷ rs) b e = let i : r ≡ q = cc in ap (λ k. Some (Reduce k)) i

pub action_none : (rs : List ℕ) (b : Bool) → ◌≡◌ {A = Option ℕ} None (first_rule_lem rs) → then_some b Shift ≡ action_of rs b
unfolding first_rule_lem action_of
action_none [] true e = refl
action_none [] false e = refl
action_none (q ∷ rs) b e = never (cc)
