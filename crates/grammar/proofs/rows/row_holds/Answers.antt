use Rattle.std.proofs.Common.{[], ◌∷◌, ◌∙◌, rules}
use Rattle.std.proofs.lemmas.Iterator.{YieldsList-from_slice}
use Rattle.std.proofs.lemmas.Iterator.Search.{all_from_yields_List}
use Rattle.grammar.specs.Spelling.{sym_of}
use Rattle.grammar.specs.Rows.{coming, holding}
use Rattle.grammar.proofs.RowBytes.{coming_codes, read_codes}
use Rattle.grammar.proofs.rows.row_holds.Goals as goal

pub returns : goal.returns
returns c =
    let row = c.row_at.result.now in
    let f = coming c.args.signs c.args.names in
    let all = all_from_yields_List (λ b. holding c.args.signs c.args.names (sym_of b ∷ [])) _ _ c.all.result c.all.ensures.ran
    (YieldsList-from_slice row cc) (λ x b q k. search rules) in
    read_codes f c.args.from row c.row_at.ensures c.all.result (all ∙ coming_codes c.args.signs c.args.names row)
