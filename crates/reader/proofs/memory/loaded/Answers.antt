use Rattle.std.proofs.Common.{ℕ, get_or, take, drop, ap, ◌∙◌, arith, rules}
use Rattle.words.proofs.Regions.{length_region}
use Rattle.reader.proofs.Bytes.{bytes_taken, table_loaded, grammar_loaded}
use Rattle.reader.proofs.memory.loaded.Goals as goal

pub returns : goal.returns
returns c =
    grammar_loaded c.args.memory.now c.read.result c.map.result
    (table_loaded c.args.memory.now _ _
    (ap (λ (k : ℕ). take k c.low_bytes-bytes.result) c.min-many.ensures
    ∙ bytes_taken (get_or c.args.memory.now 0 0) 257 (take 257 (drop 1 c.args.memory.now)) c.low_bytes-bytes.result
    (length_region 1 257 c.args.memory.now (omega arith)) c.low_bytes-bytes.ensures)
    c.read.ensures)
    (search rules)
