use Rattle.std.proofs.Common.{◌≡◌, ◌+◌, ◌-◌, get_or, sym, ap, ◌∙◌, arith, rules}
use Rattle.std.proofs.lemmas.List.{take_rest}
use Rattle.grammar.specs.Grammar.{every}
use Rattle.grammar.specs.Spelling.{byte_ok, rules_ok}
use Rattle.grammar.proofs.Rules.{rules_short, stop_head, stop_right, rules_more, rules_all}
use Rattle.grammar.proofs.spelling.are_rules.Goals as goal

pub returns-in_default : goal.returns-in_default
returns-in_default c =
    sym (rules_short (c.args.many - c.loop.counter) c.loop.room c.loop.rest.now (omega arith) (search rules)) ∙ c.loop.invariant

pub returns-then-not-is_head : goal.returns-then-not-is_head
returns-then-not-is_head c =
    sym (stop_head (c.args.many - c.loop.counter) c.loop.room c.loop.rest.now _ (omega arith) (search rules) (take_rest c.loop.rest.now 2) (sym c.if-not-is_head.ensures))
    ∙ c.loop.invariant

pub returns-then-not-all_right : goal.returns-then-not-all_right
returns-then-not-all_right c =
    sym (stop_right (c.args.many - c.loop.counter) c.loop.room c.loop.rest.now _ (omega arith) (search rules) (take_rest c.loop.rest.now 2)
    (sym c.if-not-is_head.ensures) (ap (every byte_ok) (sym c.split_at.ensures.front) ∙ sym c.if-not-all_right.ensures))
    ∙ c.loop.invariant

pub loop-preserved : goal.loop-preserved
loop-preserved c =
    let left : c.args.many - (c.loop.counter + 1) ≡ c.args.many - c.loop.counter - 1 = omega arith in
    rw left (ap (rules_ok (c.args.many - c.loop.counter - 1) (c.loop.room - get_or c.loop.rest.now 1 0)) c.split_at.ensures.back
    ∙ sym (rules_more (c.args.many - c.loop.counter) c.loop.room c.loop.rest.now _ (omega arith) (search rules) (take_rest c.loop.rest.now 2)
    (sym c.if-not-is_head.ensures) (ap (every byte_ok) (sym c.split_at.ensures.front) ∙ sym c.if-not-all_right.ensures))
    ∙ c.loop.invariant)

pub returns : goal.returns
returns c =
    c.is_empty.ensures ∙ sym (rules_all (c.args.many - c.loop.counter) c.loop.room c.loop.rest.now (omega arith)) ∙ c.loop.invariant
