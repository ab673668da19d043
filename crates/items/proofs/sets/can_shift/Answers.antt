use Rattle.std.proofs.Common.{subst, rules, tests}
use Rattle.items.specs.Actions.{shifts_place}
use Rattle.items.proofs.Actions.{shift_any}
use Rattle.items.proofs.Below.{AnyBelow, any_below}
use Rattle.items.proofs.sets.can_shift.Goals as goal

pub returns : goal.returns
returns c g s =
    let test = shifts_place g c.args.set.now c.args.ahead in
    shift_any g c.args.set.now c.args.ahead c.any.result
    (subst (λ n. AnyBelow n test c.any.result) s.holds.places (any_below _ test _ _ _ c.any.ensures.ran (λ x b q k. search (rules, tests))))
