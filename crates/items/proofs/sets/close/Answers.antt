use Rattle.std.proofs.Common.{◌*◌, ap, ◌∙◌, rules}
use Rattle.words.specs.Iter.{iter}
use Rattle.items.specs.Sets.{close_round_lem, closure}
use Rattle.items.proofs.sets.close.Goals as goal

pub returns : goal.returns
unfolding closure
returns c g d l =
    c.until_still.ensures (close_round_lem g) (λ p q r k. search rules) ∙ ap (λ n. iter (64 * n) (close_round_lem g) c.args.set.now) l
