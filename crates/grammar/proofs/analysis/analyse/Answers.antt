use Rattle.std.proofs.Common.{arith, rules}
use Rattle.grammar.specs.Grammar.{Grammar}
use Rattle.grammar.specs.Table.{Shows}
use Rattle.grammar.specs.Analysed.{no_behind, IsBehind}
use Rattle.grammar.proofs.Behind.{made_each}
use Rattle.grammar.proofs.Answered.{analysed_each, exact_behind}
use Rattle.grammar.proofs.analysis.analyse.Goals as goal

pub returns : goal.returns
returns c =
    let each = made_each _ (IsBehind c.args.table.now c.nullable-nullable.result c.firsts-firsts.result) _ (λ i y q k. search rules)
    c.from_fn-places.result 0 192 c.from_fn-places.ensures.items.each in
    let value = λ (g : Grammar) (s : Shows c.args.table.now g).
    let nullable = c.nullable-nullable.ensures g s in
    analysed_each _ s nullable (c.firsts-firsts.ensures g s nullable) (λ p h. each p (omega arith) h no_behind) in
    record { value = value; meaning = λ g s. exact_behind s.fits (value g s) }
