use Rattle.std.proofs.Common.{◌≡◌, ℕ, ◌-◌, ◌≤◌, false, length, take, sym, refl, ap, ◌∙◌, subst, arith}
use Rattle.std.proofs.lemmas.Bool.{and_from, le-leb}
use Rattle.reader.specs.Running.{NoRoom}
use Rattle.reader.proofs.Telling.{bytes_fit}
use Rattle.reader.proofs.Running.{may_so, no_fault, size_fits}
use Rattle.reader.proofs.RunningTurns.{sofar_none, sofar_more, done_so, refused_so, not_at_it, row_few, row_too_long}
use Rattle.reader.proofs.run.run.Goals as goal

pub turn-init : goal.turn-init
turn-init c = (refl, sofar_none _ _ _ c.if-not-sizes_fit.ensures)

pub returns-then-not-sizes_fit-clause-room : goal.returns-then-not-sizes_fit-clause-room
returns-then-not-sizes_fit-clause-room c =
    λ short old h. absurd (size_fits _ _ (and_from _ _ (le-leb _ _ short) (bytes_fit _ (λ i. (c.type_inv.text i).fits))) old h (le-leb _ _ short) c.if-not-sizes_fit.ensures)

pub returns-in-Done : goal.returns-in-Done
returns-in-Done c =
    let s = c.turn.invariant.1 in
    let f = and_from _ _ s.short (bytes_fit _ (λ i. (c.type_inv.text i).fits)) in
    let r = done_so _ _ _ _ _ _ s _ _ _ c.turn.invariant.0 c.in-Done.ensures.says in
    record { ran = r; allowed = λ old h. may_so _ _ f old h _ _ _ _ r (λ z. omega arith); room = refl }

pub returns-then-not-is_answer-clause-room : goal.returns-then-not-is_answer-clause-room
returns-then-not-is_answer-clause-room c =
    let s = c.turn.invariant.1 in
    let f = and_from _ _ s.short (bytes_fit _ (λ i. (c.type_inv.text i).fits)) in
    let r = refused_so _ _ _ _ _ _ s _ _ _ c.turn.invariant.0 _ false (sym c.if-not-is_answer.ensures) c.in-No.ensures.says in
    λ _ old h. absurd (no_fault _ _ f old h _ _ _ r)

pub returns-in-No : goal.returns-in-No
returns-in-No c =
    let s = c.turn.invariant.1 in
    let f = and_from _ _ s.short (bytes_fit _ (λ i. (c.type_inv.text i).fits)) in
    let r = refused_so _ _ _ _ _ _ s _ _ _ c.turn.invariant.0 c.in-No.refusal _ refl c.in-No.ensures.says in
    record { ran = r; allowed = λ old h. may_so _ _ f old h _ _ _ _ r (not_at_it c.in-No.refusal); room = refl }

pub returns-then-many-shown-clause-room : goal.returns-then-many-shown-clause-room
returns-then-many-shown-clause-room c =
    let s = c.turn.invariant.1 in
    let f = and_from _ _ s.short (bytes_fit _ (λ i. (c.type_inv.text i).fits)) in
    λ _ old h. subst (λ (k : ℕ). NoRoom old c.args.text.now k) c.turn.auto.shown
    (row_too_long _ _ _ _ _ _ s _ _ _ c.turn.invariant.0 _ c.in-Shows.ensures.says c.step.auto.out (omega arith) f old h)

pub slice_bounds-put_row-end : goal.slice_bounds-put_row-end
slice_bounds-put_row-end c =
    let few : c.in-Shows.n ≤ 32 = row_few _ _ _ _ _ _ c.turn.invariant.1 _ _ _ c.turn.invariant.0 _ c.in-Shows.ensures.says c.step.auto.out in
    let long : length c.step.new.out ≡ 32 = c.step.auto.out ∙ c.turn.invariant.0 in
    omega arith

pub turn-preserved : goal.turn-preserved
turn-preserved c =
    let e : c.in-Shows.n - 0 ≡ c.in-Shows.n = omega arith in (
      c.step.auto.out ∙ c.turn.invariant.0,
      sofar_more _ _ _ _ _ _ c.turn.invariant.1 _ _ _ c.turn.invariant.0 _ c.in-Shows.ensures.says c.step.auto.out _ _
          c.step.auto.memory c.put_row.auto.shown (omega arith) (ap (λ (k : ℕ). take k c.step.new.out) e) c.put_row.ensures,
    )
