use Rattle.std.proofs.Common.{rules}
use Rattle.words.proofs.Borrows.{value_full}
use Rattle.words.proofs.countdown.fill.Goals as goal

pub returns : goal.returns
returns c = search (rules, value_full)
