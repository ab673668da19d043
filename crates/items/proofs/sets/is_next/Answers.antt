use Rattle.std.proofs.Common.{ap, ◌∙◌}
use Rattle.grammar.specs.Places.{rest}
use Rattle.grammar.specs.Rows.{begins_with}
use Rattle.items.proofs.Codes.{begins_next}
use Rattle.items.proofs.sets.is_next.Goals as goal

pub returns : goal.returns
returns c g s h k =
    c.eq.ensures ∙ begins_next _ _ _ (c.next_at.ensures.meaning g s h)
    ∙ ap (λ n. begins_with n (rest g c.args.place)) (c.left_of.ensures ∙ s.holds.lefts c.args.rule k)
