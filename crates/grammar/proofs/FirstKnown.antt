-- What the analyses say of what stands behind the next symbol of each place: its FIRST set in a word, and whether it is nullable.
use Rattle.std.proofs.Common.{◌≡◌, ℕ, ◌^◌, ◌<◌, true, drop}
use Rattle.words.specs.Bits.{has_bit}
use Rattle.grammar.specs.Grammar.{every, Grammar, sym_fits, a_grammar}
use Rattle.grammar.specs.First.{Vanishes, Opens}
use Rattle.grammar.specs.Places.{rest}
use Rattle.grammar.specs.Analysis.{behind, passes}
use Rattle.grammar.proofs.Nullable.{vanishing_exact}
use Rattle.grammar.proofs.FirstSets.{opening_exact, opening_below}
use Rattle.grammar.proofs.Places.{every_drop, rest_fits}

pub record FirstKnown (g : Grammar) : Type 0 where
  pub behind_below : (p : ℕ) → behind g p < 2 ^ 24
  pub behind_opens : (p u : ℕ) → has_bit u (behind g p) ≡ true → Opens g (drop 1 (rest g p)) u
  pub opens_behind : (p u : ℕ) → Opens g (drop 1 (rest g p)) u → has_bit u (behind g p) ≡ true
  pub passes_vanishes : (p : ℕ) → passes g p ≡ true → Vanishes g (drop 1 (rest g p))
  pub vanishes_passes : (p : ℕ) → Vanishes g (drop 1 (rest g p)) → passes g p ≡ true

pub first_known : (g : Grammar) → a_grammar g ≡ true → FirstKnown g
unfolding behind passes
first_known g fits =
    record {
      behind_below = λ p. opening_below g fits (drop 1 (rest g p)) (f p);
      behind_opens = λ p u. (opening_exact g fits (drop 1 (rest g p)) (f p) u).0;
      opens_behind = λ p u. (opening_exact g fits (drop 1 (rest g p)) (f p) u).1;
      passes_vanishes = λ p. (vanishing_exact g fits (drop 1 (rest g p)) (f p)).0;
      vanishes_passes = λ p. (vanishing_exact g fits (drop 1 (rest g p)) (f p)).1;
    }
  where
    f : (p : ℕ) → every sym_fits (drop 1 (rest g p)) ≡ true
    f p = every_drop sym_fits 1 (rest g p) (rest_fits g p fits)
