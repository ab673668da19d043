use Rattle.std.proofs.Common.{◌≡◌, true, false, ltb, Some, None, sym, refl, ap, ◌∙◌, arith, rules}
use Rattle.std.proofs.lemmas.Bool.{lt-ltb}
use Rattle.grammar.specs.Places.{rest, next_code}
use Rattle.grammar.specs.declared.symbol.Symbol.TheVariants.{Sign}
use Rattle.grammar.specs.Symbols.{told_next}
use Rattle.grammar.proofs.NextSymbols.{code_complete_next, code_next_sign}
use Rattle.grammar.proofs.Places.{rest_fits}
use Rattle.conflicts.proofs.PairPlaces.{place_small}
use Rattle.conflicts.proofs.clashes.clash_mask.Goals as goal

pub returns-in-Some-Sign : goal.returns-in-Some-Sign
returns-in-Some-Sign c g s h k =
    let i = place_small s h in
    let j = place_small s k in
    let first = code_complete_next _ true _ (c.next_at.ensures.meaning g s h) (rest_fits g c.args.pair.first s.fits) (sym c.if-is_some.ensures) in
    let next = sym (ap (λ y. told_next (Some y)) c.in-Some-Sign.field-0-is) ∙ c.in-Some-Sign.ensures.meaning g s k in
    let fits = rest_fits g c.args.pair.second s.fits in
    let second = code_complete_next (Some (Sign c.in-Some-Sign.sign)) false _ next fits refl in
    let sign = code_next_sign _ _ next fits in
    let below : ltb (next_code (rest g c.args.pair.second)) 24 ≡ true = lt-ltb _ 24 (omega (arith, sign.0, sign.1)) in
    search rules

pub returns-in-None-2 : goal.returns-in-None-2
returns-in-None-2 c g s h k =
    let i = place_small s h in
    let j = place_small s k in
    let first = code_complete_next _ true _ (c.next_at.ensures.meaning g s h) (rest_fits g c.args.pair.first s.fits) (sym c.if-is_some.ensures) in
    let second = code_complete_next None true _ (c.in-None-2.ensures.meaning g s k) (rest_fits g c.args.pair.second s.fits) refl in
    search rules
