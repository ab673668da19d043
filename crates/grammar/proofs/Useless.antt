-- The computed useless name: if there is none, every name is of use; one that is found is of none.
use Rattle.std.proofs.Common.{◌≡◌, ℕ, zero, suc, ◌^◌, ◌<◌, Bool, true, false, not, ◌&&◌, eqb, List, [], ◌∷◌, sym, refl, ap, ◌∙◌, subst, ⊎_elim, arith}
use lib.Bits.{bit_and}
use lib.Count.{count_trailing_zeros}
use Rattle.std.proofs.lemmas.Nat.{xor_lt, and_le_l}
use Rattle.std.proofs.lemmas.Bool.{and_parts, and_from, cases_Bool, both_ways, not-true, not_from_false, eqb-true, eqb-false, false≢true}
use Rattle.words.specs.Bits.{has_bit, without_bits}
use Rattle.words.proofs.BitLaws.{has_zero, has_without, trailing_has}
use Rattle.grammar.specs.Grammar.{pick, backwards, name, Grammar, a_grammar, in_grammar, Useful, AllUseful}
use Rattle.grammar.specs.Analysis.{productive, reachable, names_in, unproductive, unreachable, useless}
use Rattle.grammar.specs.Computed.{UselessFound}
use Rattle.grammar.proofs.Lists.{nil_not_cons}
use Rattle.grammar.proofs.Trees.{comes_at_end}
use Rattle.grammar.proofs.Useful.{useful_comes}
use Rattle.grammar.proofs.Named.{names_in_exact, names_in_fits}
use Rattle.grammar.proofs.Productive.{Comes, productive_exact}
use Rattle.grammar.proofs.Reachable.{Stands, reachable_exact}

-- ---- names of the grammar that have no mark

abbrev unmarked : Grammar → ℕ → ℕ
unmarked g M = without_bits (names_in g) M

module _ (g : Grammar) (a : a_grammar g ≡ true) (M : ℕ) where
  unmarked_is : (n : ℕ) → has_bit n (unmarked g M) ≡ (in_grammar g n && not (has_bit n M))
  unmarked_is n = has_without n (names_in g) M ∙ ap (λ b. b && not (has_bit n M)) (names_in_exact g a n)

  none_unmarked : unmarked g M ≡ 0 → (n : ℕ) → in_grammar g n ≡ true → has_bit n M ≡ true
  none_unmarked e n h =
      ⊎_elim (λ b. b)
      (λ b. absurd (false≢true (sym (ap (has_bit n) e ∙ has_zero n) ∙ unmarked_is n ∙ and_from (in_grammar g n) (not (has_bit n M)) h (not_from_false (has_bit n M) b))))
      (cases_Bool (has_bit n M))

  lowest_unmarked : (unmarked g M ≡ 0 → ⊥) → (in_grammar g (count_trailing_zeros 64 (unmarked g M)) ≡ true) × (has_bit (count_trailing_zeros 64 (unmarked g M)) M ≡ false)
  lowest_unmarked some =
      let n = count_trailing_zeros 64 (unmarked g M) in
      let fits : unmarked g M < 2 ^ 64 = xor_lt 64 (names_in g) (bit_and (names_in g) M) (names_in_fits g) (omega (arith, and_le_l (names_in g) M, names_in_fits g)) in
      let p = and_parts (in_grammar g n) (not (has_bit n M)) (sym (unmarked_is n) ∙ trailing_has 64 (unmarked g M) fits (positive (unmarked g M) some)) in
      (p.0, not-true (has_bit n M) p.1)
    where
      positive : (w : ℕ) → (w ≡ 0 → ⊥) → 0 < w
      positive zero h = absurd (h refl)
      positive (suc w) h = omega arith

-- ---- what is of use stands in a form and comes to signs

useful_stands : (g : Grammar) (n : ℕ) → Useful g n → Stands g n
unfolding Useful
useful_stands g n u = (u.0, u.3, u.4, u.5)

useful_of : (g : Grammar) (n : ℕ) → Stands g n → Comes g (name n ∷ []) → Useful g n
unfolding Useful
useful_of g n s c = (s.0, backwards c.1, c.0, s.1, s.2, s.3, comes_at_end c.2 [])

pub useless_none : (g : Grammar) → a_grammar g ≡ true → useless g ≡ [] → AllUseful g
unfolding useless unproductive unreachable AllUseful
useless_none g a e = go _ refl _ refl e
  where
    go : (b : Bool) → eqb (unmarked g (productive g)) 0 ≡ b → (c : Bool) → eqb (unmarked g (reachable g)) 0 ≡ c →
        pick b (pick c [] (count_trailing_zeros 64 (unmarked g (reachable g)) ∷ [])) (count_trailing_zeros 64 (unmarked g (productive g)) ∷ []) ≡ [] → AllUseful g
    go true p true q e n h =
        let all = none_unmarked g a (productive g) (eqb-true _ 0 p) in
        let reached = none_unmarked g a (reachable g) (eqb-true _ 0 q) n h in
        useful_of g n ((reachable_exact g a all n).0 reached) ((productive_exact g a n).0 (all n h))
    go true p false q e n h = absurd (nil_not_cons (sym e))
    go false p c q e n h = absurd (nil_not_cons (sym e))

pub useless_some : (g : Grammar) → a_grammar g ≡ true → (n : ℕ) (ns : List ℕ) → useless g ≡ n ∷ ns → (in_grammar g n ≡ true) × (Useful g n → ⊥)
unfolding useless unproductive unreachable
useless_some g a n ns e = go _ refl _ refl e
  where
    at : (m : ℕ) → m ≡ n → (in_grammar g m ≡ true) × (Useful g m → ⊥) → (in_grammar g n ≡ true) × (Useful g n → ⊥)
    at m e p = subst (λ k. (in_grammar g k ≡ true) × (Useful g k → ⊥)) e p

    go : (b : Bool) → eqb (unmarked g (productive g)) 0 ≡ b → (c : Bool) → eqb (unmarked g (reachable g)) 0 ≡ c →
        pick b (pick c [] (count_trailing_zeros 64 (unmarked g (reachable g)) ∷ [])) (count_trailing_zeros 64 (unmarked g (productive g)) ∷ []) ≡ n ∷ ns →
        (in_grammar g n ≡ true) × (Useful g n → ⊥)
    go true p true q e = absurd (nil_not_cons e)
    go true p false q e =
        let all = none_unmarked g a (productive g) (eqb-true _ 0 p) in
        let m = count_trailing_zeros 64 (unmarked g (reachable g)) in
        let k = lowest_unmarked g a (reachable g) (eqb-false _ 0 q) in
        at m (cc) (k.0, λ u. both_ways (has_bit m (reachable g)) k.1 ((reachable_exact g a all m).1 (useful_stands g m u)))
    go false p c q e =
        let m = count_trailing_zeros 64 (unmarked g (productive g)) in
        let k = lowest_unmarked g a (productive g) (eqb-false _ 0 p) in
        at m (cc) (k.0, λ u. both_ways (has_bit m (productive g)) k.1 ((productive_exact g a m).1 (useful_comes g m u)))

pub useless_found_lem : UselessFound
unfolding UselessFound
useless_found_lem g a = (useless_none g a, useless_some g a)
