use Rattle.std.proofs.Common.{arith}
use Rattle.parser.proofs.DriveTheorems.{checked_so}
use Rattle.parser.proofs.check.check.Goals as goal

pub returns-clause-meaning : goal.returns-clause-meaning
returns-clause-meaning c g s u h f l room moves =
    let value = c.read_through-ending.ensures g s in
    let split = c.in-Some.ensures.cases in
    checked_so g c.args.text.now _ _ _ s.shows.fits u h f (omega (arith, split.4)) (rw split.1 moves) value
