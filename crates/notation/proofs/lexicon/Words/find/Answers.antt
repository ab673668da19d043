use Rattle.std.proofs.Common.{string_bytes}
use Rattle.std.specs.Cmp.Lexicographic.{bytes_decides}
use Rattle.notation.proofs.Looking.{position_finds}
use Rattle.notation.proofs.lexicon.Words.find.Goals as goal

pub returns : goal.returns
returns c =
    position_finds string_bytes _ _ _ (λ k. bytes_decides c.args.word.now (string_bytes k)) _ _ c.get_index_of.ensures.index
