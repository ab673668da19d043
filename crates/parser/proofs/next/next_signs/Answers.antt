use Rattle.std.proofs.Common.{arith}
use Rattle.parser.proofs.DriveTheorems.{goes_on_so}
use Rattle.parser.proofs.next.next_signs.Goals as goal

pub returns-clause-meaning : goal.returns-clause-meaning
returns-clause-meaning c g s u h f l room moves =
    let value = c.run_through-following.ensures g s in
    let split = c.in-Some.ensures.cases in
    goes_on_so g c.args.text.now _ _ _ s.shows.fits u h f (omega (arith, split.4)) (rw split.1 moves) value
