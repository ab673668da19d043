use Rattle.std.proofs.Common.{ap, ◌∙◌, arith}
use Rattle.grammar.specs.Table.{left_in}
use Rattle.grammar.proofs.Sizes.{sizes}
use Rattle.parser.proofs.config.name_of.Goals as goal

pub returns : goal.returns
returns c g s l =
    let left = c.left_of.ensures ∙ ap (left_in c.args.table.now) c.from.ensures in
    let small = (sizes g s.fits).left_below c.args.rule l in
    omega (arith, left, small, s.holds.lefts c.args.rule l, c.saturating_add.ensures)
