use Rattle.std.proofs.Common.{◌∙◌, ap₂}
use Rattle.words.specs.Bits.{has_bit}
use Rattle.items.proofs.Codes.{complete_next}
use Rattle.items.proofs.sets.reduces.Goals as goal

pub returns-then-is_none : goal.returns-then-is_none
returns-then-is_none c g s h =
    complete_next _ _ _ _ (c.next_at.ensures.meaning g s h) c.if-is_none.ensures (c.test.ensures ∙ ap₂ has_bit c.from.ensures c.at.ensures)
