use Rattle.std.proofs.Common.{replicate, ap, ◌∙◌}
use Rattle.words.specs.Iter.{iter}
use Rattle.grammar.specs.Analysis.{first_round, firsts}
use Rattle.grammar.proofs.analysis.firsts.Goals as goal

pub returns : goal.returns
unfolding firsts
returns c = λ g s e. c.first_rounds.ensures g s ∙ ap (λ n. iter 2048 (first_round g n) (replicate 32 0)) e
