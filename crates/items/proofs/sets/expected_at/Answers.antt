use Rattle.std.proofs.Common.{Some, sym, ap, ◌∙◌, arith}
use Rattle.words.specs.Bits.{has_bit, bit_of}
use Rattle.grammar.specs.Symbols.{told_next}
use Rattle.grammar.proofs.NextSymbols.{code_none, code_next_sign, code_next_name}
use Rattle.grammar.proofs.Places.{rest_fits}
use Rattle.items.proofs.Expected.{acts_shown, acts_complete, acts_empty, acts_none, acts_sign}
use Rattle.items.proofs.sets.expected_at.Goals as goal

pub returns-then-here-eq0 : goal.returns-then-here-eq0
returns-then-here-eq0 c g s h t =
    acts_empty _ _ t c.if-here-eq0.true ∙ acts_shown g c.args.set.now c.args.place _ t c.at-here.ensures

pub returns-in-None : goal.returns-in-None
returns-in-None c g s h t =
    acts_complete _ _ t (code_none _ (c.in-None.ensures.meaning g s h)) ∙ acts_shown g c.args.set.now c.args.place _ t c.at-here.ensures

pub returns-in-Some-Sign : goal.returns-in-Some-Sign
returns-in-Some-Sign c g s h t =
    let next = sym (ap (λ y. told_next (Some y)) c.in-Some-Sign.field-0-is) ∙ c.in-Some-Sign.ensures.meaning g s h in
    let d = code_next_sign _ _ next (rest_fits g c.args.place s.fits) in
    ap (has_bit t) (c.bit.ensures ∙ ap bit_of (c.from.ensures ∙ sym d.0)) ∙ acts_sign _ _ t (omega (arith, d.0, d.1)) c.if-here-eq0.false
    ∙ acts_shown g c.args.set.now c.args.place _ t c.at-here.ensures

pub returns-in-Some-Name : goal.returns-in-Some-Name
returns-in-Some-Name c g s h t =
    let next = sym (ap (λ y. told_next (Some y)) c.in-Some-Name.field-0-is) ∙ c.in-Some-Name.ensures.meaning g s h in
    let d = code_next_name _ _ next (rest_fits g c.args.place s.fits) in
    acts_none _ _ t (λ e. omega (arith, d.0, d.1)) (omega (arith, d.0)) ∙ acts_shown g c.args.set.now c.args.place _ t c.at-here.ensures
