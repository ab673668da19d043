use Rattle.std.proofs.Common.{◌∙◌, rules}
use Rattle.std.proofs.lemmas.Iterator.{YieldsList-from_slice}
use Rattle.std.proofs.lemmas.Iterator.Search.{all_from_yields_List}
use Rattle.grammar.specs.Spelling.{byte_ok}
use Rattle.grammar.proofs.Every.{every_all}
use Rattle.grammar.proofs.spelling.all_right.Goals as goal

pub returns : goal.returns
returns c =
    all_from_yields_List byte_ok _ _ c.all.result c.all.ensures.ran (YieldsList-from_slice c.args.bytes.now cc) (λ x b q k. search rules)
    ∙ every_all byte_ok c.args.bytes.now
