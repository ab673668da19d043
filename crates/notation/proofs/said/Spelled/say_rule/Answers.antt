use Rattle.std.proofs.Common.{◌≡◌, ◌-◌, ◌++◌, true, length, map, is_ok, vec_items, ap, ◌∙◌, rules}
use Rattle.std.proofs.lemmas.Iterator.{YieldsList-from_map, YieldsList-from_slice}
use Rattle.std.proofs.lemmas.Iterator.Adapters.{items_from_extend}
use Rattle.std.proofs.lemmas.Result.{IfOk-at_ok}
use Rattle.notation.specs.Said.{code_of}
use Rattle.notation.proofs.Saying.{rule_said_all}
use Rattle.notation.proofs.said.Spelled.say_rule.Goals as goal

-- what the chain gives is put behind the name and the count
pub returns : goal.returns
returns c =
    let codes = c.args.self.now.codes.now in
    let symbols =
    items_from_extend c.extend.result c.extend.ensures.ran
    (YieldsList-from_map _ (code_of codes) (YieldsList-from_slice c.deref.result.now (cc)) c.map.ensures.closure (λ x r q k. search rules)) in
    let all : vec_items c.extend.new.self ≡ vec_items c.extend_from_slice.new.self ++ map (code_of codes) c.deref.result.now =
    (IfOk-at_ok _ c.in_ok-extend.was symbols).0 in
    let ok : is_ok c.extend_from_slice.result ≡ true = ap is_ok c.in_ok-extend_from_slice.was in
    let name : c.saturating_sub-name.result ≡ code_of codes c.args.rule.now.left - 32 = c.saturating_sub-name.ensures ∙ ap (λ n. n - 32) c.code.ensures in
    let count : c.in_ok-count.count ≡ length (vec_items c.args.rule.now.right) = c.in_ok-count.ensures ∙ c.len.ensures ∙ c.args.rule.now.right.ok.0 in
    rule_said_all _ _ _ _ _ _ _ _ _ _ _ c.extend_from_slice.ensures.items ok all name count c.deref.ensures.value
