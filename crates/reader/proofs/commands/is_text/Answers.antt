use Rattle.std.proofs.Common.{ltb, ◌∙◌, rules, sym, ap, ◌&&◌}
use Rattle.std.proofs.lemmas.Bool.{le-leb}
use Rattle.std.proofs.lemmas.Iterator.{YieldsList-from_slice}
use Rattle.std.proofs.lemmas.Iterator.Search.{all_from_yields_List}
use Rattle.grammar.specs.Grammar.{every}
use Rattle.grammar.proofs.Every.{every_all}
use Rattle.reader.proofs.commands.is_text.Goals as goal

pub returns-then-signs-le4096 : goal.returns-then-signs-le4096
returns-then-signs-le4096 c =
    all_from_yields_List (λ t. ltb t 24) _ _ c.all.result c.all.ensures.ran (YieldsList-from_slice c.args.signs.now cc) (λ x b q k. search rules)
    ∙ every_all (λ t. ltb t 24) c.args.signs.now
    ∙ sym (ap (λ b. b && every (λ t. ltb t 24) c.args.signs.now) (le-leb _ 4096 c.if-signs-le4096.true))
