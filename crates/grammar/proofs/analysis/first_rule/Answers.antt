use Rattle.std.proofs.Common.{◌∙◌, ap₂}
use Rattle.words.specs.Rows.{or_at}
use Rattle.grammar.specs.Rows.{opening}
use Rattle.grammar.proofs.RuleRows.{rule_read}
use Rattle.grammar.proofs.analysis.first_rule.Goals as goal

pub returns-clause-value : goal.returns-clause-value
returns-clause-value c = λ g s h.
    let row = rule_read (opening c.args.nullable c.args.firsts.now) c.row_opening-signs.ensures s c.args.rule c.first_of.ensures h in
    let left = c.left_of.ensures ∙ s.holds.lefts c.args.rule h in
    c.put.ensures.value ∙ ap₂ (or_at c.args.firsts.now) left row
