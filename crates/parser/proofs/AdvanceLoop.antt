-- The run on to the next rule as its loop sees it: what is left to run equals the whole.
use Rattle.std.proofs.Common.{◌≡◌, ℕ, suc, ◌+◌, ◌-◌, ◌<◌, ◌≤◌, List, length, Ok, Err, Result, refl, ap, ◌∙◌, arith}
use Rattle.grammar.specs.Grammar.{Grammar}
use Rattle.parser.specs.declared.config.Step.{Step}
use Rattle.parser.specs.declared.config.Step.TheVariants.{Shifted, Reduced}
use Rattle.parser.specs.declared.config.Halt.{Halt}
use Rattle.parser.specs.declared.config.Halt.TheVariants.{Stuck, Full}
use Rattle.parser.specs.Drive.{Config, Advanced, ends, none, on_advanced, moved, advance_for, advance_of}
use Rattle.parser.specs.Told.{Told, moved_by}

-- what is left to run after i moves
abbrev pub advances : Grammar → List ℕ → ℕ → Config → Advanced
advances g ts i c = advance_for (length ts + 1 - i) g ts c

module _ (g : Grammar) (ts : List ℕ) where
  pub advances_none : (c : Config) → advances g ts 0 c ≡ advance_of g ts c
  unfolding advance_of
  advances_none c = let e : length ts + 1 - 0 ≡ suc (length ts) = omega arith in ap (λ k. advance_for k g ts c) e

  pub advances_all : (i : ℕ) (c : Config) → length ts + 1 ≤ i → advances g ts i c ≡ none
  unfolding advance_for
  advances_all i c h = let e : length ts + 1 - i ≡ 0 = omega arith in ap (λ k. advance_for k g ts c) e

  module _ (i : ℕ) (c d : Config) (r : Result Step Halt) (within : i < length ts + 1) (t : Told (moved g ts c) c r d) where
    one_move : advances g ts i c ≡ on_advanced (advances g ts (i + 1)) (moved_by r d)
    unfolding advance_for
    one_move =
        let e : length ts + 1 - i ≡ suc (length ts + 1 - (i + 1)) = omega arith in
        ap (λ k. advance_for k g ts c) e ∙ ap (on_advanced (advances g ts (i + 1))) t.is

    pub advances_shifted : r ≡ Ok Shifted → advances g ts i c ≡ advances g ts (i + 1) d
    unfolding on_advanced moved_by
    advances_shifted e = one_move ∙ ap (λ z. on_advanced (advances g ts (i + 1)) (moved_by z d)) e

    pub advances_reduced : (k : ℕ) → r ≡ Ok (Reduced k) → advances g ts i c ≡ ends k d
    unfolding on_advanced moved_by
    advances_reduced k e = one_move ∙ ap (λ z. on_advanced (advances g ts (i + 1)) (moved_by z d)) e

    pub advances_off : (h : Halt) → r ≡ Err h → advances g ts i c ≡ none
    unfolding on_advanced moved_by
    advances_off h e = one_move ∙ ap (λ z. on_advanced (advances g ts (i + 1)) (moved_by z d)) e ∙ go h
      where
        go : (h : Halt) → on_advanced (advances g ts (i + 1)) (moved_by (Err h) d) ≡ none
        go Stuck = refl
        go Full = refl
