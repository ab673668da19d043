use Rattle.std.proofs.Common.{[], ◌∷◌, ◌++◌, vec_items, ap, ◌∙◌}
use Rattle.notation.proofs.rules.Notation.add.Goals as goal

pub returns : goal.returns
returns c =
    (c.in_ok-rule.rule, c.in_ok-push.ensures.items ∙ ap (λ v. vec_items v ++ c.in_ok-rule.rule ∷ []) c.entered.ensures)
