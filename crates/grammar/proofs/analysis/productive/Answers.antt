use Rattle.std.proofs.Common.{◌<◌, length, ap, ◌∙◌, arith, rules}
use Rattle.words.specs.Iter.{counted, iter}
use Rattle.grammar.specs.Rows.{producing}
use Rattle.grammar.specs.Analysis.{mark_rule_lem, productive}
use Rattle.grammar.proofs.analysis.productive.Goals as goal

pub returns : goal.returns
unfolding productive
returns c = λ g s.
    c.mark_all.ensures (mark_rule_lem producing g) (λ k M r h e. let q : k < length g = omega (arith, s.holds.rules) in search rules)
    ∙ ap (λ n. iter 64 (counted n (mark_rule_lem producing g)) 0) s.holds.rules
