use Rattle.std.proofs.Common.{◌<◌, length, ap, ◌∙◌, arith, rules}
use Rattle.words.specs.Iter.{counted}
use Rattle.grammar.specs.Analysis.{name_rule, names_in}
use Rattle.grammar.proofs.analysis.names_in.Goals as goal

pub returns : goal.returns
unfolding names_in
returns c = λ g s.
    c.mark_round.ensures.value (name_rule g) (λ k M r h e. let q : k < length g = omega (arith, s.holds.rules) in search rules)
    ∙ ap (λ n. counted n (name_rule g) 0) s.holds.rules
