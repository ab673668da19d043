use Rattle.std.proofs.Common.{suc, set, refl, ap, ◌∙◌}
use Rattle.items.proofs.Codes.{code_yes, code_no}
use Rattle.items.proofs.sets.advance_place.Goals as goal

pub returns-then-symbol_at-symbol : goal.returns-then-symbol_at-symbol
returns-then-symbol_at-symbol c g s h =
    rw (code_yes s c.args.symbol c.args.place _ h c.symbol_at.ensures c.if-symbol_at-symbol.true)
    (c.set_behind.ensures ∙ ap (set c.args.next.now (suc c.args.place)) c.at.ensures)

pub returns-else-symbol_at-symbol : goal.returns-else-symbol_at-symbol
returns-else-symbol_at-symbol c g s h =
    rw (code_no s c.args.symbol c.args.place _ h c.symbol_at.ensures c.if-symbol_at-symbol.false) refl
