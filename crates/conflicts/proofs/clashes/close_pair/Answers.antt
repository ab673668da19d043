use Rattle.std.proofs.Common.{◌^◌, ◌<◌, sym, subst, lit<, rules}
use Rattle.std.proofs.lemmas.Nat.{mod_below}
use Rattle.grammar.proofs.FirstKnown.{first_known}
use Rattle.conflicts.proofs.PairSound.{begun_own_below}
use Rattle.conflicts.proofs.clashes.close_pair.Goals as goal

pub returns-clause-value : goal.returns-clause-value
returns-clause-value c g d hp hq =
    let own = subst (λ n. n < 2 ^ 25) (sym (c.begun_own-own.ensures g d.analysed hp)) (begun_own_below g (first_known g d.shows.fits) c.args.pair.first c.at-here.result) in
    let low = subst (λ n. n < 2 ^ 25) (sym c.low.ensures) (mod_below c.at-there.result (2 ^ 25) (lit< tt)) in
    search rules
