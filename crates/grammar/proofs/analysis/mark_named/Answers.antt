use Rattle.std.proofs.Common.{ap, ◌∙◌, ap₂}
use lib.Bits.{bit_or}
use Rattle.words.specs.Bits.{bit_of}
use Rattle.words.proofs.RowLaws.{or_grows}
use Rattle.grammar.specs.Rows.{named}
use Rattle.grammar.proofs.RuleRows.{rule_read}
use Rattle.grammar.proofs.analysis.mark_named.Goals as goal

pub returns : goal.returns
returns c = record {
  value = λ g s h.
      let row = rule_read named c.row_names.ensures s c.args.rule c.first_of.ensures h in
      let left = c.bit-left.ensures ∙ ap bit_of (c.left_of.ensures ∙ s.holds.lefts c.args.rule h) in
      ap (bit_or c.args.names) (ap₂ bit_or left row);
  grew = or_grows c.args.names _;
}
