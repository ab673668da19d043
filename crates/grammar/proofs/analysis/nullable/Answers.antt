use Rattle.std.proofs.Common.{◌<◌, length, ap, ◌∙◌, arith, rules}
use Rattle.words.specs.Iter.{counted, iter}
use Rattle.grammar.specs.Rows.{vanishing}
use Rattle.grammar.specs.Analysis.{mark_rule_lem, nullable}
use Rattle.grammar.proofs.analysis.nullable.Goals as goal

pub returns : goal.returns
unfolding nullable
returns c = λ g s.
    c.mark_all.ensures (mark_rule_lem vanishing g) (λ k M r h e. let q : k < length g = omega (arith, s.holds.rules) in search rules)
    ∙ ap (λ n. iter 64 (counted n (mark_rule_lem vanishing g)) 0) s.holds.rules
