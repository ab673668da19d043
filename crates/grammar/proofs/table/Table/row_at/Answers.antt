use Rattle.std.proofs.Common.{◌≡◌, length, arith, rules}
use Rattle.grammar.proofs.Places.{places_bound, rest_within}
use Rattle.grammar.proofs.Slices.{row_read}
use Rattle.grammar.proofs.table.Table.row_at.Goals as goal

pub returns : goal.returns
returns c = λ g s h.
    let long : length c.args.self.now.symbols ≡ 192 = search rules in
    let end = c.end_of.ensures g s h in
    let within = rest_within g c.args.from h in
    let bound = places_bound g s.fits in
    row_read s long c.args.from c.min.result c.min-end.result h (omega (arith, end, within, bound)) (omega (arith, end, within, bound))
