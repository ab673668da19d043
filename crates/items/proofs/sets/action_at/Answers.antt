use Rattle.std.proofs.Common.{sym, ap, ◌∙◌}
use Rattle.std.specs.Bool.{then_some}
use Rattle.items.specs.declared.sets.Action.TheVariants.{Shift}
use Rattle.items.proofs.Actions.{action_some, action_none}
use Rattle.items.proofs.sets.action_at.Goals as goal

pub returns-in-Some : goal.returns-in-Some
returns-in-Some c g s = action_some _ _ _ (c.in-Some.ensures g s)

pub returns : goal.returns
returns c g s =
    c.then_some.ensures ∙ ap (λ b. then_some b Shift) (c.can_shift.ensures g s) ∙ action_none _ _ (sym c.in_default.is ∙ c.reduction.ensures g s)
