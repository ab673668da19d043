use Rattle.std.proofs.Common.{List, ℕ, ◌++◌, drop, length, set, refl, ap}
use Rattle.reader.specs.Entry.{ActTold}
use Rattle.reader.proofs.refuses.Goals as goal

pub returns : goal.returns
unfolding ActTold
returns c = (
  ap (λ (k : ℕ). set c.args.memory.now 258 k) c.from.ensures,
  (refl, ap (λ (l : List ℕ). l ++ drop (length c.args.row.now) c.args.out.now) c.copy_from_slice.ensures.after),
)
