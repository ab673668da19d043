use Rattle.std.proofs.Common.{◌≡◌, length, ap, ◌∙◌, arith}
use Rattle.grammar.specs.Places.{first_place_lem, rest}
use Rattle.grammar.specs.Spelling.{sym_spelled}
use Rattle.grammar.specs.Table.{first_in}
use Rattle.grammar.proofs.Places.{place_first}
use Rattle.grammar.proofs.Spelled.{length_each}
use Rattle.parser.proofs.config.symbols_of.Goals as goal

pub returns : goal.returns
returns c g s l =
    let at : c.from-begin.result ≡ first_place_lem g c.args.rule =
    c.from-begin.ensures ∙ c.first_of.ensures ∙ ap (first_in c.args.table.now) c.from.ensures ∙ s.holds.firsts c.args.rule l in
    let first = place_first g c.args.rule l in
    ap length (c.row_at.ensures g s (omega (arith, at, first.within))) ∙ length_each sym_spelled (rest g c.from-begin.result)
    ∙ ap length (ap (rest g) at ∙ first.rests)
