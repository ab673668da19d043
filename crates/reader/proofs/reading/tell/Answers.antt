use Rattle.std.proofs.Common.{◌≡◌, ◌∙◌, eqb, refl, ap, arith}
use Rattle.std.proofs.lemmas.Bool.{eq-eqb, ne_eqb}
use Rattle.grammar.specs.Grammar.{pick}
use Rattle.reader.specs.Laid.{layout_of}
use Rattle.reader.specs.Phases.{phase_code}
use Rattle.reader.proofs.ReadTold.{resumed, none_told, rule_told}
use Rattle.reader.proofs.reading.tell.Goals.{then-rule-eq0, else-rule-eq0}
use Rattle.reader.proofs.reading.tell.Goals as goal

pub returns-in_default : goal.returns-in_default
returns-in_default c = λ g is describes.
    let m = c.args.memory.now in
    let r = c.args.regions in
    let from = resumed (layout_of r) m g _ _ _ c.low_bytes-text.result c.resume-state.result (omega (arith, r.behind, r.apart, r.within, c.requires.lent))
    is c.min-many.ensures c.low_bytes-text.ensures c.stack_start.ensures c.stack_end.ensures
    c.resume-state.ensures.height c.resume-state.ensures.taken (c.resume-state.ensures.items g describes) in
    none_told (layout_of r) m c.args.out.now g _ _ from _ _ _
    (c.in_default.ensures.rule g describes) c.from.ensures (c.in_default.ensures.cleared refl)

pub returns : goal.returns
returns c = λ g is describes.
    let m = c.args.memory.now in
    let r = c.args.regions in
    let from = resumed (layout_of r) m g _ _ _ c.low_bytes-text.result c.resume-state.result (omega (arith, r.behind, r.apart, r.within, c.requires.lent))
    is c.min-many.ensures c.low_bytes-text.ensures c.stack_start.ensures c.stack_end.ensures
    c.resume-state.ensures.height c.resume-state.ensures.taken (c.resume-state.ensures.items g describes) in
    let phase : c.from-2.result ≡ pick (eqb c.in-Some.rule 0) 2 1 =
    c.from-2.ensures ∙ elim c.if-rule-eq0.branch [
      | then-rule-eq0 w ↦ ap phase_code w.phase-is ∙ rw (eq-eqb c.in-Some.rule 0 w.if-rule-eq0.true) refl
      | else-rule-eq0 w ↦ ap phase_code w.phase-is ∙ rw (ne_eqb c.in-Some.rule 0 w.if-rule-eq0.false) refl
    ] in
    rule_told (layout_of r) m c.args.out.now g _ _ from c.in-Some.rule _ _ c.advance_in.new.memory c.advance_in.new.state
    (omega (arith, c.requires.room)) c.from-3.ensures (c.in-Some.ensures.rule g describes) phase c.in-Some.ensures.kept
