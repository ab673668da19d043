use Rattle.std.proofs.Common.{rules}
use Rattle.std.proofs.iter.runs.Made.{chains}
use Rattle.reader.proofs.LastName.{says, says_no}
use Rattle.reader.proofs.last_name.Goals as goal

pub returns-then-not-all_symbols : goal.returns-then-not-all_symbols
returns-then-not-all_symbols c = says_no _ _ c.if-not-all_symbols.ensures

pub returns : goal.returns
returns c = says _ _ c.map.result c.if-not-all_symbols.ensures (search (rules, chains))
