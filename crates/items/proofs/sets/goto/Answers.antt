use Rattle.std.proofs.Common.{◌≡◌, length, ap, ◌∙◌, rules}
use Rattle.items.specs.Sets.{closure, goto}
use Rattle.items.proofs.BehindStacks.{behind_goto}
use Rattle.items.proofs.sets.goto.Goals as goal

pub returns : goal.returns
unfolding goto
returns c =
    let l : length c.advance-next.result.words ≡ 192 = search rules in
    record {
      value = λ g d. c.close.ensures g d l ∙ ap (closure g) (c.advance-next.ensures g d.shows);
      meaning = λ g d γ x b e. behind_goto g γ x _ _ _ d.shows.fits (c.close.ensures g d l ∙ ap (closure g) (c.advance-next.ensures g d.shows)) b e;
    }
