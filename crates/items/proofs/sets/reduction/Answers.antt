use Rattle.std.proofs.Common.{◌≡◌, slice_index, ◌∙◌, subst, rules, tests}
use Rattle.std.specs.Option.{option_map}
use Rattle.grammar.specs.Places.{places}
use Rattle.items.specs.Actions.{reduces_place}
use Rattle.items.proofs.Actions.{reduce_first}
use Rattle.items.proofs.Below.{FirstBelow, first_below}
use Rattle.items.proofs.sets.reduction.Goals as goal

pub returns : goal.returns
returns c g s =
    let test = reduces_place g c.args.set.now c.args.ahead in
    let first : FirstBelow (places g) test c.find.result =
    subst (λ n. FirstBelow n test c.find.result) s.holds.places (first_below _ test _ _ _ c.find.ensures.ran (λ x b q k. search (rules, tests))) in
    let owned : c.map.result ≡ option_map (slice_index c.args.table.now.owners) c.find.result = search (rules, tests) in
    owned ∙ reduce_first g c.args.set.now c.args.ahead _ s.holds.owners c.find.result first
