use Rattle.std.proofs.Common.{arith}
use Rattle.grammar.specs.Spelling.{grammar_of}
use Rattle.reader.specs.Laid.{layout_of}
use Rattle.reader.specs.Memory.{spelling_in}
use Rattle.reader.proofs.Lent.{worked}
use Rattle.reader.proofs.NextTold.{expect_unloaded, signs_told, wrong_told, unknown_told}
use Rattle.reader.proofs.expecting.expect.Goals as goal

pub returns-in_default : goal.returns-in_default
returns-in_default c = expect_unloaded (layout_of c.args.regions) _ _ _ c.in_default.ensures

pub returns-in-Ok : goal.returns-in-Ok
returns-in-Ok c =
    let m = c.args.memory.now in
    let r = c.args.regions in
    let g = grammar_of (spelling_in m) in
    let describes = c.in-Some.ensures.1 in
    let w = worked (layout_of r) _ m _ c.stack_end.ensures (omega (arith, c.stack_end.ensures, c.requires.lent)) c.next_signs.ensures.cleared in
    signs_told (layout_of r) m c.args.signs.now c.args.out.now g _ _ c.in-Some.ensures.0 w c.in-Ok.mask _ _ _
    (c.in-Ok.ensures.value w.fuel g describes) c.from.ensures c.show_signs.ensures.many c.show_signs.ensures.row

pub returns-in-Err-Wrong : goal.returns-in-Err-Wrong
returns-in-Err-Wrong c =
    let m = c.args.memory.now in
    let r = c.args.regions in
    let g = grammar_of (spelling_in m) in
    let describes = c.in-Some.ensures.1 in
    let w = worked (layout_of r) _ m _ c.stack_end.ensures (omega (arith, c.stack_end.ensures, c.requires.lent)) c.next_signs.ensures.cleared in
    wrong_told (layout_of r) m c.args.signs.now c.args.out.now g _ _ c.in-Some.ensures.0 w c.in-Err-Wrong.place _ _ _
    (rw c.in-Err-Wrong.field-0-is at (c.in-Err-Wrong.ensures.value w.fuel g describes)) c.refuses.ensures

pub returns-in-Err-GaveOut : goal.returns-in-Err-GaveOut
returns-in-Err-GaveOut c =
    let m = c.args.memory.now in
    let r = c.args.regions in
    let g = grammar_of (spelling_in m) in
    let describes = c.in-Some.ensures.1 in
    let w = worked (layout_of r) _ m _ c.stack_end.ensures (omega (arith, c.stack_end.ensures, c.requires.lent)) c.next_signs.ensures.cleared in
    unknown_told (layout_of r) m c.args.signs.now c.args.out.now g _ _ c.in-Some.ensures.0 w
    (rw c.in-Err-GaveOut.field-0-is at (c.in-Err-GaveOut.ensures.value w.fuel g describes))
