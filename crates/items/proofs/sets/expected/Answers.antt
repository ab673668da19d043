use Rattle.std.proofs.Common.{◌≡◌, ap, ◌∙◌, rules, tests}
use Rattle.words.specs.Bits.{has_bit}
use Rattle.words.specs.Iter.{counted}
use Rattle.words.proofs.BitLaws.{has_zero}
use Rattle.grammar.specs.Grammar.{none_of}
use Rattle.items.specs.Sets.{reduce_at, shift_at}
use Rattle.items.proofs.Below.{fold_below}
use Rattle.items.proofs.Expected.{ActsTo, acts_more}
use Rattle.items.proofs.sets.expected.Goals as goal

pub returns : goal.returns
unfolding counted none_of reduce_at shift_at
returns c g s t =
    fold_below c.args.table.now.places (λ k signs. has_bit t signs ≡ ActsTo g c.args.set.now.words t k) _ _ _ c.fold.ensures.ran (has_zero t) (λ a x b q k. (search (rules, tests), λ l e. search (rules, tests, acts_more)))
    ∙ ap (ActsTo g c.args.set.now.words t) s.holds.places
