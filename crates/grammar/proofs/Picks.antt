-- What a choice comes to.
use Rattle.std.proofs.Common.{◌≡◌, ℕ, Bool, true, false, refl, inl, true≢false}
use mathlib.Core.Bool.{false≢true}
use Rattle.words.specs.Iter.{Up}
use Rattle.grammar.specs.Grammar.{pick}

module _ {A : Type 0} where
  pub pick_true : (b : Bool) (x y : A) → b ≡ true → pick b x y ≡ x
  pick_true true x y e = refl
  pick_true false x y e = absurd (false≢true e)

  pub pick_false : (b : Bool) (x y : A) → b ≡ false → pick b x y ≡ y
  pick_false true x y e = absurd (true≢false e)
  pick_false false x y e = refl

  pub pick_both : (b : Bool) (x y : A) (P : A → Type 0) → (b ≡ true → P x) → (b ≡ false → P y) → P (pick b x y)
  pick_both true x y P f h = f refl
  pick_both false x y P f h = h refl

  -- what is the same or larger, or else the same, is the same or larger
  pub up_pick : (size : A → ℕ) (b : Bool) (x y : A) → Up size x y → Up size x (pick b y x)
  up_pick size true x y u = u
  up_pick size false x y u = inl refl
