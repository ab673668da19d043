use Rattle.std.proofs.Common.{refl, rules}
use Rattle.grammar.specs.Places.{places}
use Rattle.conflicts.specs.Pairs.{clash_in_row_lem}
use Rattle.conflicts.specs.PairSteps.{Found, OtherIsRule}
use Rattle.conflicts.proofs.Scanning.{found_below, found_says, scan_of}
use Rattle.conflicts.proofs.clashes.clash_among.Goals as goal

pub returns-clause-value : goal.returns-clause-value
returns-clause-value c g s =
    scan_of (clash_in_row_lem g c.args.work.now) (places g) _
    (found_below (places g) (λ p y. Found y (clash_in_row_lem g c.args.work.now p)) refl (c.place_count.ensures.value g s)
    (search rules) (λ p y l h. search rules) _ c.find_map.ensures.runs)

pub returns-clause-other : goal.returns-clause-other
returns-clause-other c g s =
    found_says (places g) (OtherIsRule g) tt _
    (found_below (places g) (λ p. OtherIsRule g) refl (c.place_count.ensures.value g s) (search rules) (λ p y l h. search rules) _ c.find_map.ensures.runs)
