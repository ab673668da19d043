use Rattle.std.proofs.Common.{ap, ◌∙◌}
use Rattle.words.specs.Bits.{has_bit}
use Rattle.grammar.specs.Rows.{named}
use Rattle.grammar.proofs.RuleRows.{rule_read, up_marks, pick_same}
use Rattle.grammar.proofs.analysis.mark_reachable.Goals as goal

pub returns : goal.returns
returns c =
    let M = c.args.marks in
    record {
      value = λ g s h.
          let row = rule_read named c.row_names.ensures s c.args.rule c.first_of.ensures h in
          let left = c.left_of.ensures ∙ s.holds.lefts c.args.rule h in
          c.mark_if.ensures ∙ pick_same M (c.test-reached.ensures ∙ ap (λ n. has_bit n M) left) row;
      grew = up_marks _ M _ _ c.mark_if.ensures;
    }
