use Rattle.std.proofs.Common.{ℕ, List, set, ◌∙◌, ap₂, arith}
use Rattle.reader.proofs.Overwriting.{over_more}
use Rattle.reader.proofs.memory.write_over.Goals as goal

pub loop-i-preserved : goal.loop-i-preserved
loop-i-preserved c =
    ap₂ (λ (l : List ℕ) (x : ℕ). set l c.loop-i.i x) c.loop-i.invariant c.from.ensures
    ∙ over_more c.args.bytes.now c.args.words.now c.loop-i.i (omega arith) c.requires
