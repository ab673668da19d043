use Rattle.std.proofs.Common.{◌≡◌, ℕ, true, List, [], length, replicate, Some, None, Option, ap, ◌∙◌, subst, arith}
use Rattle.grammar.specs.Grammar.{Grammar, a_grammar, AllUseful}
use Rattle.conflicts.specs.declared.clashes.ClashFound.{ClashFound}
use Rattle.conflicts.specs.Pairs.{pairs, clash_among_lem, clash_of}
use Rattle.conflicts.specs.PairSteps.{Found, Tells}
use Rattle.conflicts.proofs.Finder.{clash_none, clash_some}
use Rattle.conflicts.proofs.clashes.find_clash.Goals as goal

found_tells : (g : Grammar) → a_grammar g ≡ true → AllUseful g → (r : Option ClashFound) → Found r (clash_of g) → Tells g r
found_tells g fits useful None h = clash_none g fits useful h
found_tells g fits useful (Some c) h = clash_some g fits useful _ [] h

-- the clash of the words that the rounds have come to
found_among : (g : Grammar) (r : Option ClashFound) (work : List ℕ) → work ≡ pairs g → Found r (clash_among_lem g work) → Found r (clash_of g)
unfolding clash_of
found_among g r work e h = subst (λ w. Found r (clash_among_lem g w)) e h

pub returns-clause-value : goal.returns-clause-value
returns-clause-value c g d long = found_among g _ _ (c.saturate.ensures g d long) (c.clash_among-clash.ensures.value g d.shows)

pub returns-clause-meaning : goal.returns-clause-meaning
returns-clause-meaning c g d long useful =
    found_tells g d.shows.fits useful _ (found_among g _ _ (c.saturate.ensures g d long) (c.clash_among-clash.ensures.value g d.shows))

pub returns-clause-cleared : goal.returns-clause-cleared
returns-clause-cleared c long = let n : length c.saturate.new.work ≡ 36864 = omega arith in c.zeroes.ensures ∙ ap (λ k. replicate k 0) n
