use Rattle.std.proofs.Common.{◌^◌, ◌<◌, arith, lit<}
use lib.Bits.{bit_and}
use Rattle.std.proofs.lemmas.Nat.{or_lt, and_le_r, mod_below}
use Rattle.conflicts.proofs.PairWords.{both_below}
use Rattle.conflicts.proofs.clashes.begun_both.Goals as goal
use Rattle.conflicts.proofs.clashes.begun_both.Goals.{then-passes_at, else-passes_at}

pub returns-clause-fits : goal.returns-clause-fits
returns-clause-fits c =
    let passed : c.if-passes_at.passed < 2 ^ 39 = elim c.if-passes_at.branch [
      | then-passes_at w ↦ omega (arith, w.passed-is, both_below c.args.here c.ranges.here.fits)
      | else-passes_at w ↦ omega (arith, w.passed-is)
    ] in
    let common : bit_and c.behind_at.result c.low.result < 2 ^ 39 =
    omega (arith, and_le_r c.behind_at.result c.low.result, c.low.ensures, mod_below c.args.there (2 ^ 25) (lit< tt)) in
    or_lt 39 _ _ common passed
