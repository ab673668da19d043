use Rattle.std.proofs.Common.{string_bytes, sym, ◌∙◌}
use Rattle.std.specs.Cmp.Lexicographic.{bytes_decides}
use Rattle.notation.proofs.Looking.{stands_there}
use Rattle.notation.proofs.lexicon.Words.enter.Goals as goal

pub returns-clause-stands : goal.returns-clause-stands
returns-clause-stands c =
    let there = c.in_ok-number.ensures.stored in
    stands_there string_bytes _ _ there.0 _ _ there.1 (sym ((bytes_decides _ _).0 there.2) ∙ c.in_ok-from_str.ensures.ok)
