use Rattle.std.proofs.Common.{not, ◌&&◌, eqb, slice_index, ap, ◌∙◌}
use Rattle.grammar.proofs.Places.{rest_fits}
use Rattle.items.proofs.Codes.{sign_next}
use Rattle.items.proofs.sets.shifts.Goals as goal

pub returns-then-eq : goal.returns-then-eq
returns-then-eq c g s h =
    let some = not (eqb (slice_index c.args.set.now c.args.place) 0) in
    ap (λ w. not (eqb w 0)) c.at.ensures ∙ ap (λ b. b && some) c.if-eq.ensures
    ∙ sign_next _ _ _ _ (c.next_at.ensures.meaning g s h) (rest_fits g c.args.place s.fits)

pub returns-else-eq : goal.returns-else-eq
returns-else-eq c g s h =
    let some = not (eqb (slice_index c.args.set.now c.args.place) 0) in
    c.if-eq.false ∙ ap (λ b. b && some) c.if-eq.ensures
    ∙ sign_next _ _ _ _ (c.next_at.ensures.meaning g s h) (rest_fits g c.args.place s.fits)
