use Rattle.std.proofs.Common.{◌≡◌, ◌<◌, true, Some, refl, ap, ◌∙◌, arith, rules}
use Rattle.std.proofs.lemmas.Option.{MatchOption-at_some}
use Rattle.std.specs.Result.{result_ok}
use Rattle.grammar.specs.Spelling.{byte_ok}
use Rattle.notation.proofs.Saying.{byte_ok_sign, every_more, every_none}
use Rattle.notation.proofs.rules.Notation.codes.Goals as goal
use Rattle.notation.proofs.rules.Notation.codes.Goals.{in-Some+in_ok-code-in-Some, in-None+in_ok-code-in-None}

pub loop-word-init : goal.loop-word-init
loop-word-init c = record { many = search rules; good = search (rules, every_none); ends = refl }

pub loop-word-preserved : goal.loop-word-preserved
loop-word-preserved c =
    let good : byte_ok c.match-place_of_name.code ≡ true =
    elim c.match-place_of_name.branch [
      | in-Some+in_ok-code-in-Some w ↦ search rules
      | in-None+in_ok-code-in-None w ↦
          let some : w.next.result ≡ Some w.in_ok-code-in-None.code = w.ok_or.ensures.ok_part ∙ ap result_ok w.in_ok-code-in-None.was in
          let at = MatchOption-at_some _ _ _ some w.next.ensures.steps.1 in
          let less : w.in_ok-code-in-None.code < 24 = omega (arith, at.0, at.1, c.loop-word.invariant.ends) in
          ap byte_ok w.code-is ∙ byte_ok_sign w.in_ok-code-in-None.code less
    ] in
    let ends : c.match-place_of_name.signs.end ≡ 24 =
    elim c.match-place_of_name.branch [
      | in-Some+in_ok-code-in-Some w ↦ search rules
      | in-None+in_ok-code-in-None w ↦ ap (λ s. s.end) w.signs-is ∙ w.next.ensures.steps.0 ∙ c.loop-word.invariant.ends
    ] in
    record { many = search rules; good = search (rules, every_more); ends = ends }
