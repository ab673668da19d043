use Rattle.std.proofs.Common.{◌≡◌, length, ap, ◌∙◌, ap₂, rules}
use Rattle.words.specs.Bits.{bit_of}
use Rattle.words.specs.Rows.{or_at}
use Rattle.items.specs.Sets.{closure, start_set}
use Rattle.items.proofs.BehindStacks.{behind_start}
use Rattle.items.proofs.sets.start.Goals as goal

pub returns : goal.returns
unfolding start_set
returns c =
    let l : length c.put.new.row ≡ 192 = search rules in
    let at_start = c.put.ensures.value ∙ ap₂ (λ z m. or_at z 0 m) c.default-set.ensures (c.bit.ensures ∙ ap bit_of c.from.ensures) in
    record {
      value = λ g d. c.close.ensures g d l ∙ ap (closure g) at_start;
      meaning = λ g d. behind_start g _ d.shows.fits (c.close.ensures g d l ∙ ap (closure g) at_start);
    }
