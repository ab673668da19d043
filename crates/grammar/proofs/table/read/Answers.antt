use Rattle.std.proofs.Common.{◌<◌, ◌≤◌, length, get_or, take, drop, sym, ap, ◌∙◌, subst, arith, rules}
use Rattle.std.proofs.lemmas.List.{take_rest}
use Rattle.grammar.specs.Spelling.{Spells}
use Rattle.grammar.proofs.Filling.{sofar_none, row_within, rule_room, place_room, sofar_more, sofar_all}
use Rattle.grammar.proofs.table.read.Goals as goal

pub slice_bounds-rest-count : goal.slice_bounds-rest-count
unfolding Spells
slice_bounds-rest-count c = omega (arith, ap length c.if-not-is_grammar.ensures.meaning.1)

pub slice_bounds-rest-start : goal.slice_bounds-rest-start
unfolding Spells
slice_bounds-rest-start c =
    let k : 1 ≤ length c.args.bytes.now = omega (arith, ap length c.if-not-is_grammar.ensures.meaning.1) in search rules

pub rule-init : goal.rule-init
unfolding Spells
rule-init c = sofar_none _ _ _ c.if-not-is_grammar.ensures.meaning.1 (sym (take_rest c.args.bytes.now 1)) c.empty-table.ensures

pub split_at-requires : goal.split_at-requires
split_at-requires c =
    let behind = take_rest c.rule.rest.now 2 in
    let k = row_within c.rule.invariant (search rules) in
    subst (λ xs. get_or c.rule.rest.now 1 0 ≤ length xs) (sym behind) k

pub add_rule-requires : goal.add_rule-requires
unfolding Spells
add_rule-requires c =
    let count = get_or c.rule.rest.now 1 0 in
    let behind = take_rest c.rule.rest.now 2 in
    let fits = c.if-not-is_grammar.ensures.meaning.0 in
    let two : 2 ≤ length c.rule.rest.now = search rules in
    record { rules = rule_room c.rule.invariant two fits; places = place_room c.rule.invariant two fits _ (c.split_at.ensures.front ∙ ap (take count) behind) }

pub rule-preserved : goal.rule-preserved
rule-preserved c =
    let count = get_or c.rule.rest.now 1 0 in
    let behind = take_rest c.rule.rest.now 2 in
    let two : 2 ≤ length c.rule.rest.now = search rules in
    sofar_more c.rule.invariant two _ _ _ (c.split_at.ensures.front ∙ ap (take count) behind) (c.split_at.ensures.back ∙ ap (drop count) behind) c.add_rule.ensures

pub returns : goal.returns
unfolding Spells
returns c =
    let meaning = c.if-not-is_grammar.ensures.meaning in
    let k : length c.rule.rest.now < 2 = search rules in
    (meaning, sofar_all c.rule.invariant k meaning.0)
