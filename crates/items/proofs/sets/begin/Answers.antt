use Rattle.std.proofs.Common.{◌≡◌, true, false, ap, ◌∙◌}
use Rattle.words.specs.Rows.{or_at}
use Rattle.grammar.specs.Grammar.{pick, rule}
use Rattle.grammar.specs.Places.{rest, first_place_lem}
use Rattle.grammar.specs.Rows.{begins_with}
use Rattle.items.proofs.Codes.{begins_next}
use Rattle.items.proofs.sets.begin.Goals as goal

pub returns-then-eq-clause-value : goal.returns-then-eq-clause-value
returns-then-eq-clause-value c g p s h l e =
    let u = c.args.set.now in
    let named : true ≡ begins_with (rule g c.args.rule).left (rest g p) =
    c.if-eq.ensures ∙ begins_next _ _ _ e ∙ ap (λ n. begins_with n (rest g p)) (c.left_of.ensures ∙ s.holds.lefts c.args.rule l) in
    c.put.ensures.value ∙ ap (λ q. or_at u q c.args.ahead) (c.from.ensures ∙ c.first_of.ensures ∙ s.holds.firsts c.args.rule l)
    ∙ ap (λ b. pick b (or_at u (first_place_lem g c.args.rule) c.args.ahead) u) named

pub returns-else-eq-clause-value : goal.returns-else-eq-clause-value
returns-else-eq-clause-value c g p s h l e =
    let u = c.args.set.now in
    let other : false ≡ begins_with (rule g c.args.rule).left (rest g p) =
    c.if-eq.ensures ∙ begins_next _ _ _ e ∙ ap (λ n. begins_with n (rest g p)) (c.left_of.ensures ∙ s.holds.lefts c.args.rule l) in
    ap (λ b. pick b (or_at u (first_place_lem g c.args.rule) c.args.ahead) u) other
