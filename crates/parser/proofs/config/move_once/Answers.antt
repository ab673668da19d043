use Rattle.std.proofs.Common.{◌≡◌, ◌<◌, length, Some, None, Err, ok_or, sym, refl, ap, ◌∙◌, arith, rules}
use Rattle.parser.specs.declared.config.Halt.TheVariants.{Stuck}
use Rattle.parser.specs.Told.{config_of, moved_by}
use Rattle.parser.proofs.ToldMoves.{handed_on, told_as, moved_reduce, moved_shift, moved_stuck}
use Rattle.parser.proofs.config.move_once.Goals as goal

pub returns-in_err-action : goal.returns-in_err-action
unfolding moved_by
returns-in_err-action c g s =
    let here = config_of c.args.stack.now c.args.state.now in
    let none : c.action_at.result ≡ None = c.in_err-action.ensures.ok_part in
    let stuck = c.in_err-action.ensures.value ∙ ap (λ o. ok_or o Stuck) none in
    let why : c.in_err-action.field-0.0 ≡ Stuck = cc in
    let told : c.from_residual.result ≡ Err Stuck = handed_on _ _ c.from_residual.ensures.1 ∙ ap Err why in
    record {
      is = moved_stuck g c.args.text.now here c.lookahead-sign.result c.lookahead-sign.ensures (sym none ∙ c.action_at.ensures g s.shows)
          ∙ ap (λ r. moved_by r here) (sym told);
      kept = λ _. refl;
    }

pub returns-in-Reduce : goal.returns-in-Reduce
returns-in-Reduce c g s =
    let is = c.in_ok-action.ensures.ok_part ∙ ap Some c.in-Reduce.is in
    let act = moved_reduce g c.args.text.now (config_of c.args.stack.now c.args.state.now) c.lookahead-sign.result c.lookahead-sign.ensures
    _ (sym is ∙ c.action_at.ensures g s.shows) in
    told_as act.1 (search (rules, s, act.0))

pub returns-in-Shift : goal.returns-in-Shift
returns-in-Shift c g s =
    let is = c.in_ok-action.ensures.ok_part ∙ ap Some c.in-Shift.is in
    let act = moved_shift g c.args.text.now (config_of c.args.stack.now c.args.state.now) c.lookahead-sign.result c.lookahead-sign.ensures
    (sym is ∙ c.action_at.ensures g s.shows) in
    let most : length c.args.text.now < 18446744073709551616 = search rules in
    told_as act.1 (c.shift.ensures g s (omega (arith, act.0, most)))
