use Rattle.std.proofs.Common.{[], ◌∷◌, ◌∙◌, rules}
use lib.Bits.{bit_or, or_zero_l}
use Rattle.std.proofs.lemmas.Iterator.{YieldsList-from_slice}
use Rattle.std.proofs.lemmas.Iterator.Consumers.{fold_from_yields_List}
use Rattle.grammar.specs.Spelling.{sym_of}
use Rattle.grammar.specs.Rows.{named}
use Rattle.grammar.proofs.RowBytes.{named_codes, read_codes}
use Rattle.grammar.proofs.rows.row_names.Goals as goal

pub returns : goal.returns
returns c =
    let row = c.row_at.result.now in
    let all = fold_from_yields_List _ (λ a b. bit_or a (named (sym_of b ∷ []))) 0 c.fold.result c.fold.ensures.ran
    (YieldsList-from_slice row cc) (λ a x b q k. search rules) in
    read_codes named c.args.from row c.row_at.ensures c.fold.result (all ∙ named_codes 0 row ∙ or_zero_l _)
