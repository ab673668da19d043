use Rattle.std.proofs.Common.{string_bytes, rules}
use Rattle.notation.proofs.Looking.{read_there}
use Rattle.notation.proofs.lexicon.Words.word.Goals as goal

pub returns : goal.returns
returns c =
    read_there string_bytes c.args.self.now.all.keys c.args.number c.map_or.result _ c.get_index.result _ c.get_index.ensures.key
    (λ x h. search rules) c.map_or.ensures
