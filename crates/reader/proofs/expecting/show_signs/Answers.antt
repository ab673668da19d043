use Rattle.std.proofs.Common.{sym, arith}
use Rattle.reader.proofs.NextTold.{so_far_none, so_far_has, so_far_not}
use Rattle.reader.proofs.expecting.show_signs.Goals.{then-test, else-test}
use Rattle.reader.proofs.expecting.show_signs.Goals as goal

pub sign-init : goal.sign-init
sign-init c = so_far_none c.args.mask c.args.out.now

pub sign-preserved : goal.sign-preserved
sign-preserved c =
    let so = c.sign.invariant in
    let mask = c.args.mask in
    let i = c.sign.sign in
    elim c.if-test.branch [
      | then-test w ↦ rw (w.many-is, w.out-is) (so_far_has mask c.args.out.now i c.sign.many c.sign.out so (omega (arith, c.requires)) (sym w.if-test.ensures))
      | else-test w ↦ rw (w.many-is, w.out-is) (so_far_not mask c.args.out.now i c.sign.many c.sign.out so (sym w.if-test.ensures))
    ]
