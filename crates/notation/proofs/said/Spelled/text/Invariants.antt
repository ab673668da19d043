use Rattle.std.proofs.Common.{vec_items}
use Rattle.notation.specs.Said.{TextSaid}
use Rattle.notation.proofs.said.Spelled.text.Given as goal

abbrev pub invariant-loop-word : goal.invariant-loop-word
invariant-loop-word l = TextSaid l.kind (vec_items l.bytes)
