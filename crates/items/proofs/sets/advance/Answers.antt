use Rattle.std.proofs.Common.{ap, ◌∙◌, arith}
use Rattle.words.specs.Iter.{counted}
use Rattle.words.proofs.Fixpoint.{counted_then}
use Rattle.items.specs.Sets.{no_items, advance_place_lem, advanced_set}
use Rattle.items.proofs.sets.advance.Goals as goal

pub loop-place-init : goal.loop-place-init
unfolding counted
loop-place-init c g s = c.default-next.ensures

pub loop-place-preserved : goal.loop-place-preserved
loop-place-preserved c g s =
    counted_then (advance_place_lem g c.args.symbol c.args.set.now.words) c.loop-place.place _ _ _ (c.loop-place.invariant g s)
    (c.advance_place.ensures g s (omega (arith, s.holds.places)))

pub returns : goal.returns
unfolding advanced_set
returns c g s =
    c.loop-place.invariant g s ∙ ap (λ k. counted k (advance_place_lem g c.args.symbol c.args.set.now.words) no_items) (omega (arith, s.holds.places))
