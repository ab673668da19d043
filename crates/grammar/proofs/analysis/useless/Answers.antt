use Rattle.std.proofs.Common.{◌∙◌, ap₂}
use Rattle.words.specs.Bits.{without_bits}
use Rattle.grammar.specs.Grammar.{Grammar}
use Rattle.grammar.specs.Table.{Shows}
use Rattle.grammar.specs.Analysis.{lowest, unproductive, unreachable, useless}
use Rattle.grammar.proofs.Answered.{judged}
use Rattle.grammar.proofs.analysis.useless.Goals as goal

pub returns : goal.returns
unfolding useless unproductive unreachable
returns c =
    let names = c.names_in-names.ensures in
    let value = λ (g : Grammar) (s : Shows c.args.table.now g).
    c.lowest.ensures
    ∙ ap₂ lowest (c.without-unproductive.ensures ∙ ap₂ without_bits (names g s) (c.productive.ensures g s))
    (c.without-unreachable.ensures ∙ ap₂ without_bits (names g s) (c.reachable.ensures g s)) in
    record { value = value; meaning = λ g s. judged g _ s.fits (value g s) }
