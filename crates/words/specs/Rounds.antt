-- What a step on a row of words that is called does at each call. Assumes nothing: these are definitions.
use Rattle.std.specs.Prelude.{◌≡◌, ℕ, ◌<◌, Bool, List}
use denote.Ref.{MutBor}
use denote.Param.Members.{Shared}
use Rattle.words.specs.Iter.{Grew}
use Rattle.words.specs.Rows.{size}

-- a row that is lent, and lent beside a number
abbrev pub Lent : Type 0
Lent = MutBor (List ℕ) × Unit {0}

abbrev pub LentAt : Type 0
LentAt = MutBor (List ℕ) × (ℕ × Unit {0})

module _ {F : Type 0} (g : Shared F Lent (Bool × Lent)) (round : F) where
  -- each call makes the row larger where it says so, and else leaves it as it is
  abbrev pub RoundGrows : Type 0
  RoundGrows = (p q : MutBor (List ℕ)) (r : Bool) → g.post round (p, tt) (r, (q, tt)) → Grew size p.now q.now r

  -- each call makes f of the row
  abbrev pub RoundIs : (List ℕ → List ℕ) → Type 0
  RoundIs f = (p q : MutBor (List ℕ)) (r : Bool) → g.post round (p, tt) (r, (q, tt)) → q.now ≡ f p.now

module _ {F : Type 0} (g : Shared F LentAt (Bool × Lent)) (step : F) (count : ℕ) where
  -- the same of a call at a number below count
  abbrev pub StepGrows : Type 0
  StepGrows = (p q : MutBor (List ℕ)) (i : ℕ) (r : Bool) → i < count → g.post step (p, (i, tt)) (r, (q, tt)) → Grew size p.now q.now r

  abbrev pub StepIs : (ℕ → List ℕ → List ℕ) → Type 0
  StepIs f = (p q : MutBor (List ℕ)) (i : ℕ) (r : Bool) → i < count → g.post step (p, (i, tt)) (r, (q, tt)) → q.now ≡ f i p.now
