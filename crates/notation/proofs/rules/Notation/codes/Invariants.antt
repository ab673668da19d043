use Rattle.std.proofs.Common.{◌≡◌, true, vec_items, vec_len}
use Rattle.grammar.specs.Grammar.{every}
use Rattle.grammar.specs.Spelling.{byte_ok}
use Rattle.notation.proofs.rules.Notation.codes.Given as goal

abbrev pub invariant-loop-word : goal.invariant-loop-word
invariant-loop-word l = record {
  many : vec_len l.codes ≡ l.word;
  good : every byte_ok (vec_items l.codes) ≡ true;
  ends : l.signs.end ≡ 24;
}
