use Rattle.std.proofs.Common.{◌≡◌, ◌<◌, not, eqb, length, get_or, set, bit_or, sym, subst, rules}
use Rattle.words.specs.Iter.{Grew}
use Rattle.words.specs.Rows.{size}
use Rattle.words.proofs.RowLaws.{grew_or_at}
use Rattle.words.proofs.rows.put.Goals as goal

pub returns-clause-grew : goal.returns-clause-grew
returns-clause-grew c =
    let row = c.args.row.now in
    let q = c.args.place in
    let m = c.args.mask in
    let word : c.in-Some.field-0.now ≡ get_or row q 0 = search rules in
    let within : q < length row = search rules in
    subst (λ w. Grew size row (set row q (bit_or w m)) (not (eqb w (bit_or w m)))) (sym word) (grew_or_at row q m within)
