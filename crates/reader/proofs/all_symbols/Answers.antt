use Rattle.std.proofs.Common.{◌∙◌, rules}
use Rattle.std.proofs.lemmas.Iterator.{YieldsList-from_slice}
use Rattle.std.proofs.lemmas.Iterator.Search.{all_from_yields_List}
use Rattle.grammar.specs.Spelling.{symbol_ok}
use Rattle.grammar.proofs.Every.{every_all}
use Rattle.reader.proofs.all_symbols.Goals as goal

pub returns : goal.returns
returns c =
    all_from_yields_List symbol_ok _ _ c.all.result c.all.ensures.ran (YieldsList-from_slice c.args.symbols.now cc) (λ x b q k. search rules)
    ∙ every_all symbol_ok c.args.symbols.now
