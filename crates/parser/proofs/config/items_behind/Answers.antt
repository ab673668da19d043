use Rattle.std.proofs.Common.{◌≡◌, rules, tests}
use Rattle.words.specs.Packed.{stacked, unpacked}
use Rattle.items.proofs.Below.{fold_below}
use Rattle.items.specs.declared.sets.ItemSet.{ItemSet}
use Rattle.parser.specs.Drive.{items_of}
use Rattle.parser.proofs.Steps.{items_more}
use Rattle.parser.proofs.config.items_behind.Goals as goal

pub returns : goal.returns
unfolding items_of stacked
returns c g s =
    fold_below c.args.height (λ k (items : ItemSet). items.words ≡ items_of g (stacked k (unpacked c.args.stack.now))) _ _ _ c.fold.ensures.ran
    (c.start.ensures.value g s) (λ a x b q k. (search (rules, tests), λ l e. items_more g (unpacked c.args.stack.now) x (search (rules, tests, s)) e))
