use Rattle.std.proofs.Common.{ap, ◌∙◌}
use Rattle.words.specs.Bits.{bit_of}
use Rattle.grammar.specs.Rows.{coming}
use Rattle.grammar.proofs.RuleRows.{rule_read, up_marks, pick_same}
use Rattle.grammar.proofs.analysis.mark_held.Goals as goal

pub returns : goal.returns
returns c =
    let M = c.args.marks in
    record {
      value = λ g s h.
          let row = rule_read (coming c.args.signs M) c.row_holds-held.ensures s c.args.rule c.first_of.ensures h in
          let left = c.left_of.ensures ∙ s.holds.lefts c.args.rule h in
          c.mark_if.ensures ∙ pick_same M row (c.bit.ensures ∙ ap bit_of left);
      grew = up_marks _ M _ _ c.mark_if.ensures;
    }
