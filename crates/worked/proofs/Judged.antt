-- The grammars judged, by computation: they fit, and the search for a name of no use, which is exact, finds none, or finds one.
use Rattle.std.proofs.Common.{[], refl}
use lib.Count.{count_trailing_zeros}
use Rattle.words.specs.Bits.{has_bit}
use Rattle.words.specs.Iter.{iter, counted}
use Rattle.grammar.specs.Grammar.{every, added_up, rule, begins_well, later_fit, sym_fits}
use Rattle.grammar.specs.Analysis.{useless, unproductive, unreachable, names_in, productive, reachable}
use Rattle.grammar.specs.Rows.{producing, named}
use Rattle.grammar.proofs.Useless.{useless_none, useless_some}
use Rattle.worked.specs.Table.{sums, sums_of_sums, ifs, endless, Reduced, RefusedForName}

pub judged : Reduced sums × Reduced sums_of_sums × Reduced ifs × RefusedForName endless 2
unfolding begins_well later_fit every sym_fits added_up rule useless unproductive unreachable names_in productive reachable iter counted producing named has_bit count_trailing_zeros
judged =
    let p = useless_some endless refl 2 [] refl in
    ((refl, useless_none sums refl refl), (refl, useless_none sums_of_sums refl refl), (refl, useless_none ifs refl refl), (refl, p.0, λ u. absurd (p.1 u)))
