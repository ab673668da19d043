use Rattle.std.proofs.Common.{rules}
use Rattle.grammar.proofs.NextSymbols.{code_none_next, same_next_code}
use Rattle.grammar.proofs.Places.{rest_fits}
use Rattle.conflicts.proofs.clashes.advance.Goals as goal
use Rattle.conflicts.proofs.clashes.advance.Goals.{then-is_none-via-then-is_none, then-is_none-via-else-is_none+then-ne}

pub returns-then-is_none-clause-value : goal.returns-then-is_none-clause-value
returns-then-is_none-clause-value c g s h k =
    elim c.then-is_none.branch [
      | then-is_none-via-then-is_none w ↦
          let complete = code_none_next _ _ (c.next_at-symbol.ensures.meaning g s h) w.if-is_none.ensures in search rules
      | then-is_none-via-else-is_none+then-ne w ↦
          let same =
          same_next_code _ _ _ _ (c.next_at-symbol.ensures.meaning g s h) (w.next_at.ensures.meaning g s k) (rest_fits g c.args.pair.first s.fits)
          (rest_fits g c.args.pair.second s.fits) in
          search rules
    ]
