use Rattle.std.proofs.Common.{◌≤◌, ltb, leb, length, arith}
use Rattle.std.proofs.lemmas.Bool.{and_parts, leb-true}
use Rattle.grammar.specs.Grammar.{every}
use Rattle.grammar.specs.Spelling.{grammar_of}
use Rattle.reader.specs.Laid.{layout_of}
use Rattle.reader.specs.Memory.{spelling_in}
use Rattle.reader.proofs.Lent.{worked}
use Rattle.reader.proofs.ReadTold.{read_unloaded, still_loaded, accepted_told, wrong_told, gave_out_told}
use Rattle.reader.proofs.reading.read.Goals as goal

pub returns-in_default : goal.returns-in_default
returns-in_default c = read_unloaded (layout_of c.args.regions) _ _ _ c.in_default.ensures

pub returns-in-Ok : goal.returns-in-Ok
returns-in-Ok c =
    let m = c.args.memory.now in
    let r = c.args.regions in
    let g = grammar_of (spelling_in m) in
    let describes = c.in-Some.ensures.1 in
    let w = worked (layout_of r) _ m _ c.stack_end.ensures (omega (arith, c.stack_end.ensures, r.apart, r.within, c.requires.lent)) c.check.ensures.cleared in
    let short : length c.args.signs.now ≤ 4096 = leb-true _ 4096 (and_parts (leb (length c.args.signs.now) 4096) (every (λ t. ltb t 24) c.args.signs.now) c.requires.text).0 in
    let still = still_loaded (layout_of r) m c.args.signs.now _ _ _ g w c.store_text.ensures c.in-Some.ensures.0 r.behind (omega (arith, r.apart, r.within, c.requires.lent)) short in
    accepted_told (layout_of r) m c.args.signs.now c.args.out.now g _ _ c.in-Some.ensures.0 w _ _ _ _
    (c.in-Ok.ensures.value w.fuel g describes) c.store_text.ensures (c.tell.ensures g still describes)

pub returns-in-Err-Wrong : goal.returns-in-Err-Wrong
returns-in-Err-Wrong c =
    let m = c.args.memory.now in
    let r = c.args.regions in
    let g = grammar_of (spelling_in m) in
    let describes = c.in-Some.ensures.1 in
    let w = worked (layout_of r) _ m _ c.stack_end.ensures (omega (arith, c.stack_end.ensures, r.apart, r.within, c.requires.lent)) c.check.ensures.cleared in
    wrong_told (layout_of r) m c.args.signs.now c.args.out.now g _ _ c.in-Some.ensures.0 w c.in-Err-Wrong.place _ _ _
    (rw c.in-Err-Wrong.field-0-is at (c.in-Err-Wrong.ensures.value w.fuel g describes)) (rw c.in-Err-Wrong.place-is at c.refuses.ensures)

pub returns-in-Err-GaveOut : goal.returns-in-Err-GaveOut
returns-in-Err-GaveOut c =
    let m = c.args.memory.now in
    let r = c.args.regions in
    let g = grammar_of (spelling_in m) in
    let describes = c.in-Some.ensures.1 in
    let w = worked (layout_of r) _ m _ c.stack_end.ensures (omega (arith, c.stack_end.ensures, r.apart, r.within, c.requires.lent)) c.check.ensures.cleared in
    gave_out_told (layout_of r) m c.args.signs.now c.args.out.now g _ _ c.in-Some.ensures.0 w
    (rw c.in-Err-GaveOut.field-0-is at (c.in-Err-GaveOut.ensures.value w.fuel g describes))
