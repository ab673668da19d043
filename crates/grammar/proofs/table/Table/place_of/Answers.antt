use Rattle.std.proofs.Common.{◌≡◌, ◌-◌, ◌<◌, ap, ◌∙◌, arith, rules}
use Rattle.grammar.specs.Table.{first_in}
use Rattle.grammar.proofs.Places.{places_bound}
use Rattle.grammar.proofs.Marks.{marks_place}
use Rattle.grammar.proofs.table.Table.place_of.Goals as goal

pub returns-clause-marks : goal.returns-clause-marks
returns-clause-marks c = λ g s h.
    let owner = c.owner_of-rule.ensures in
    let first = c.first_of.ensures ∙ ap (first_in c.args.self.now) owner in
    let done = c.saturating_sub-done.ensures ∙ ap (λ f. c.args.number - f) first in
    let small : c.saturating_sub-done.result < 256 = omega (arith, places_bound g s.fits) in
    let dot : c.unwrap_or-dot.result ≡ c.saturating_sub-done.result = search rules in
    marks_place s c.args.number h _ _ owner (dot ∙ done)
