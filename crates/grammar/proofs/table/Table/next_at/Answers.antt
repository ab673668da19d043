use Rattle.std.proofs.Common.{◌∙◌, rules}
use Rattle.grammar.specs.Symbols.{told_next, next_of}
use Rattle.grammar.specs.Table.{symbol_in}
use Rattle.std.proofs.Common.{◌≡◌}
use Rattle.grammar.proofs.NextSymbols.{first_shown}
use Rattle.grammar.proofs.table.Table.next_at.Goals as goal

pub returns-clause-meaning : goal.returns-clause-meaning
returns-clause-meaning c g s h =
    let value : told_next c.then_some.result ≡ next_of (symbol_in c.args.self.now c.args.place) = search rules in
    value ∙ first_shown s c.args.place h
