use Rattle.std.proofs.Common.{◌≡◌, ◌*◌, length, replicate, ap, ap₂, ◌∙◌, arith, rules}
use Rattle.words.specs.Iter.{iter}
use Rattle.words.specs.Rows.{or_at}
use Rattle.conflicts.specs.Pairs.{pair_round_lem, pairs}
use Rattle.conflicts.proofs.clashes.saturate.Goals as goal

pub returns : goal.returns
unfolding pairs
returns c g d long =
    let rounds : 64 * length c.put.new.row ≡ 2359296 = omega arith in
    let start = c.put.ensures.value ∙ ap (λ row. or_at row 0 562949970198528) (c.zeroes.ensures ∙ ap (λ n. replicate n 0) long) in
    c.until_still.ensures (pair_round_lem g) (λ p q r k. search rules) ∙ ap₂ (λ n row. iter n (pair_round_lem g) row) rounds start
