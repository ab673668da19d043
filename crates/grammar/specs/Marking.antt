-- What a step that marks names in one word does at each call, which is at a rule and the marks so far. Assumes nothing: these are definitions.
use Rattle.std.specs.Prelude.{◌≡◌, ℕ, ◌<◌, count_ones}
use denote.Param.Members.{Shared}
use Rattle.words.specs.Iter.{Up}

module _ {F : Type 0} (g : Shared F (ℕ × (ℕ × Unit {0})) ℕ) (mark : F) (rules : ℕ) where
  -- each call at one of so many rules gives the marks, or more
  abbrev pub MarkGrows : Type 0
  MarkGrows = (k M r : ℕ) → k < rules → g.post mark (k, (M, tt)) r → Up count_ones M r

  -- and gives f of them
  abbrev pub MarkIs : (ℕ → ℕ → ℕ) → Type 0
  MarkIs f = (k M r : ℕ) → k < rules → g.post mark (k, (M, tt)) r → r ≡ f k M
