use Rattle.std.proofs.Common.{◌≡◌, ◌<◌, length, ap, ◌∙◌, arith, rules}
use Rattle.words.specs.Iter.{counted, iter}
use Rattle.grammar.specs.Analysis.{reach_rule, reachable}
use Rattle.grammar.proofs.analysis.reachable.Goals as goal

pub returns : goal.returns
unfolding reachable
returns c = λ g s.
    let from : c.bit-beginning.result ≡ 1 = search rules in
    c.mark_all.ensures (reach_rule g) (λ k M r h e. let q : k < length g = omega (arith, s.holds.rules) in search rules)
    ∙ ap (λ n. iter 64 (counted n (reach_rule g)) c.bit-beginning.result) s.holds.rules ∙ ap (iter 64 (counted (length g) (reach_rule g))) from
