use Rattle.std.proofs.Common.{◌≡◌, ℕ, ◌<◌, Bool, true, false, length, Option, IfSome, sym, subst, arith, rules}
use Rattle.std.specs.Bool.{then_some}
use Rattle.grammar.proofs.NextSymbols.{code_complete_next}
use Rattle.grammar.proofs.Places.{place_parts, rest_fits}
use Rattle.conflicts.proofs.clashes.clash_at.Goals as goal

some_below : (n : ℕ) (b : Bool) (k : ℕ) (o : Option ℕ) → o ≡ then_some b k → k < n → IfSome o (λ j. j < n)
some_below n true k o e h = subst (λ o. IfSome o (λ j. j < n)) (sym e) h
some_below n false k o e h = subst (λ o. IfSome o (λ j. j < n)) (sym e) tt

pub returns-clause-value : goal.returns-clause-value
returns-clause-value c g s h k =
    let complete = code_complete_next _ _ _ (c.next_at.ensures.meaning g s k) (rest_fits g c.args.pair.second s.fits) c.is_none-complete.ensures in
    search rules

pub returns-clause-other : goal.returns-clause-other
returns-clause-other c g s h k =
    some_below (length g) _ _ _ c.then_some-other.ensures (omega (arith, c.owner_of.ensures, s.holds.owners c.args.pair.second k, (place_parts g c.args.pair.second k).owner_within))
