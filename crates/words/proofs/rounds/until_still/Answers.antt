use Rattle.std.proofs.Common.{◌*◌, ◌≤◌, length, sym, refl, ap, ◌∙◌, arith}
use Rattle.words.specs.Rows.{size}
use Rattle.words.proofs.Fixpoint.{reached_none, reached_more, reached_rest}
use Rattle.words.proofs.RowLaws.{size_below}
use Rattle.words.proofs.rounds.until_still.Goals as goal

pub round-init : goal.round-init
round-init g c f h = reached_none f size c.args.row.now

pub round-smaller : goal.round-smaller
round-smaller g c =
    let after = c.round-in-round.new.arg2 in
    let grew = c.requires.grows _ _ _ c.round-in-round.ensures in
    omega (arith, size_below (length after) after (refl, λ i. (c.type_inv.row i).fits), grew.more c.round-test.true)

pub round-preserved : goal.round-preserved
round-preserved g c f h =
    let grew = c.requires.grows _ _ _ c.round-in-round.ensures in
    reached_more (c.round.invariant f h) c.round-in-round.new.arg2 (h _ _ _ c.round-in-round.ensures) (grew.more c.round-test.true)

pub returns : goal.returns
returns g c f h =
    let after = c.round-in-round.new.arg2 in
    let grew = c.requires.grows _ _ _ c.round-in-round.ensures in
    let same = grew.same c.round-test.false in
    let fits : size c.round.row ≤ 64 * length c.args.row.now =
    omega (arith, size_below (length after) after (refl, λ i. (c.type_inv.row i).fits), ap size same) in
    same ∙ reached_rest (c.round.invariant f h) (sym (h _ _ _ c.round-in-round.ensures) ∙ same) (64 * length c.args.row.now) fits
