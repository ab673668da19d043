use Rattle.std.proofs.Common.{◌≡◌, ◌+◌, ◌≤◌, length, ◌∙◌, arith}
use Rattle.reader.proofs.Lent.{lent_length, lent_kept}
use Rattle.reader.proofs.reading.advance_in.Goals as goal

pub returns-clause-kept : goal.returns-clause-kept
returns-clause-kept c =
    let m = c.args.memory.now in
    let r = c.args.regions in
    let b = c.stack_start.result in
    let e = c.stack_end.result in
    let stop : e ≡ r.work + r.fuel + r.stack = omega (arith, c.stack_end.ensures) in
    let fits : r.work + r.fuel + r.stack ≤ length m = omega (arith, c.requires, r.apart, r.within) in
    let lent = lent_length b r.stack e m (omega (arith, c.stack_start.ensures)) (omega arith) in
    lent_kept (r.work + r.fuel) r.stack b e m c.stack_start.ensures stop c.advance.new.stack fits (c.advance.auto.stack ∙ lent) (λ i. (c.type_inv.memory i).fits)
