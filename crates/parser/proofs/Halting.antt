-- A run that is driven by item sets stops where the run that it stands for is stuck, or right behind the sign that was wanted; the moves never give out.
use Rattle.std.proofs.Common.{◌≡◌, ℕ, zero, suc, ◌+◌, ◌<◌, ◌≤◌, Bool, true, false, leb, List, [], ◌∷◌, ◌++◌, length, refl, ap, arith, length-append}
use Rattle.std.proofs.lemmas.Bool.{leb-true, leb-false}
use Rattle.grammar.specs.Grammar.{pick, Sym, sign, Grammar, a_grammar, AllUseful}
use Rattle.grammar.proofs.Sizes.{sizes}
use Rattle.items.specs.Items.{lookahead, Valid}
use Rattle.conflicts.specs.Conflicts.{NoConflict}
use Rattle.parser.specs.Runs.{Run, stay}
use Rattle.parser.specs.Moves.{Stuck}
use Rattle.parser.specs.Drive.{Config, Moved, moved, Halt, arrives, sticks, on_stepped, run_to, start_config}
use Rattle.parser.specs.DriveStatements.{most_symbols, most_moves}
use Rattle.parser.proofs.Runs.{run_push_shift, run_sees_lookahead}
use Rattle.parser.proofs.MoveBound.{moves_bounded}
use Rattle.parser.proofs.Stands.{Stands, start_stands}
use Rattle.parser.proofs.DriveMoves.{Move, by_shift, by_reduce, by_none, move}

-- behind a shift, or at the start, it does not matter what comes
abbrev AnyBehind : Grammar → List ℕ → List Sym → List ℕ → Type 0
AnyBehind g us γ rs = (σ : List ℕ) → Run g [] us γ σ rs

-- where a run stops that goes until `last` signs are taken
pub data Halted (g : Grammar) (ts : List ℕ) (last : ℕ) : Halt → Type 0 where
  at_last : (c : Config) (γ : List Sym) (us ρ rs : List ℕ) → Stands g ts c γ us ρ rs → last ≤ c.taken → AnyBehind g us γ rs → Halted g ts last (arrives c)
  at_stuck : (c : Config) (γ : List Sym) (us ρ rs : List ℕ) → Stands g ts c γ us ρ rs → Stuck g γ ρ → c.taken < last → Halted g ts last (sticks c)

module _ (g : Grammar) (fits : a_grammar g ≡ true) (useful : AllUseful g) (once : NoConflict g) (ts : List ℕ) where
  abbrev Limits : ℕ → Type 0
  Limits limit = (γ : List Sym) (us ρ rs : List ℕ) → ts ≡ us ++ ρ → Run g [] us γ ρ rs → length us + length rs < limit

  shift_any : {γ : List Sym} {us ρ rs : List ℕ} (t : ℕ) (σ : List ℕ) {r : ℕ} {β : List Sym} {u : ℕ} → ρ ≡ t ∷ σ → Valid g γ r (sign t ∷ β) u → Run g [] us γ ρ rs →
      AnyBehind g (us ++ t ∷ []) (sign t ∷ γ) rs
  shift_any t σ e v R τ = run_push_shift t τ refl (run_sees_lookahead (t ∷ τ) (ap lookahead e) R) v

  module _ (last limit : ℕ) (few : Limits limit) where
    run_to_halts : (n : ℕ) {c : Config} {γ : List Sym} {us ρ rs : List ℕ} → Stands g ts c γ us ρ rs → (last ≤ c.taken → AnyBehind g us γ rs) →
        limit ≤ length us + length rs + n → Halted g ts last (run_to n last g ts c)
    unfolding run_to on_stepped
    run_to_halts zero {γ = γ} {us} {ρ} {rs} st any h = let k = few γ us ρ rs st.text st.run in absurd (omega arith)
    run_to_halts (suc n) {c} {γ} {us} {ρ} {rs} st any h =
        test (leb last c.taken) refl (λ d γ₁ us₁ ρ₁ rs₁ st₁ any₁ h₁. run_to_halts n st₁ any₁ h₁)
      where
        Later : Type 0
        Later =
            (d : Config) (γ₁ : List Sym) (us₁ ρ₁ rs₁ : List ℕ) → Stands g ts d γ₁ us₁ ρ₁ rs₁ → (last ≤ d.taken → AnyBehind g us₁ γ₁ rs₁) →
            limit ≤ length us₁ + length rs₁ + n → Halted g ts last (run_to n last g ts d)

        go : c.taken < last → (m : Moved) → Move g ts γ us ρ rs m → Later → Halted g ts last (on_stepped (run_to n last g ts) c m)
        go l _ (by_shift t σ d e can st₁) ih = ih d _ _ _ _ st₁ (λ k. shift_any t σ e can.3 st.run) (omega (arith, length-append us (t ∷ [])))
        go l _ (by_reduce r d v st₁) ih = ih d _ _ _ _ st₁ (λ k. absurd (omega (arith, st.took, st₁.took))) (omega (arith, length-append rs (r ∷ [])))
        go l _ (by_none k) ih = at_stuck c γ us ρ rs st k l

        test : (b : Bool) → leb last c.taken ≡ b → Later →
            Halted g ts last (pick b (arrives c) (on_stepped (run_to n last g ts) c (moved g ts c)))
        test true e ih = let k = leb-true last c.taken e in at_last c γ us ρ rs st k (any k)
        test false e ih = go (leb-false last c.taken e) (moved g ts c) (move g fits useful once ts st) ih

  pub run_halts : (n : ℕ) → length ts ≤ n → (last room moves : ℕ) → most_symbols n ≤ room → most_moves n ≤ moves →
      Halted g ts last (run_to moves last g ts (start_config g room))
  unfolding most_moves
  run_halts n short last room moves hr hm = run_to_halts last (most_moves n) few moves (start_stands g ts room enough) (λ _ σ. stay) (omega arith)
    where
      enough : most_symbols (length ts) ≤ room
      enough = omega arith

      few : Limits (most_moves n)
      few γ us ρ rs e R = moves_bounded g (sizes g fits) once useful n (omega (arith, ap length e)) R
