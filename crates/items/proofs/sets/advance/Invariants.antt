use Rattle.std.proofs.Common.{◌≡◌}
use Rattle.words.specs.Iter.{counted}
use Rattle.grammar.specs.Grammar.{Grammar}
use Rattle.grammar.specs.Table.{Shows}
use Rattle.items.specs.Sets.{no_items, advance_place_lem}
use Rattle.items.proofs.sets.advance.Given as goal

abbrev pub invariant-loop-place : goal.invariant-loop-place
invariant-loop-place l = (g : Grammar) → Shows l.table g → l.next.words ≡ counted l.place (advance_place_lem g l.symbol l.set.words) no_items
