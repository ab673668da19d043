use Rattle.std.proofs.Common.{refl, arith}
use Rattle.grammar.specs.Places.{places}
use Rattle.grammar.proofs.table.Table.empty.Goals as goal

pub returns : goal.returns
unfolding places
returns c = record {
  rules = refl;
  places = refl;
  symbols = λ p h. absurd (omega arith);
  owners = λ p h. absurd (omega arith);
  firsts = λ k h. absurd (omega arith);
  lefts = λ k h. absurd (omega arith);
}
