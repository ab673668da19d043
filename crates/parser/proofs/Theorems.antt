-- The statements on runs, proved.
use Rattle.std.proofs.Common.{◌≡◌, ℕ, true, ltb, List, [], ◌∷◌, length, sym, refl, ap, subst, arith}
use Rattle.grammar.specs.Grammar.{every}
use Rattle.grammar.proofs.Sizes.{sizes}
use Rattle.conflicts.proofs.Enough.{no_conflict}
use Rattle.parser.specs.Outcomes.{Outcome}
use Rattle.parser.specs.Statements.{RunsAreReadings, RunsAreOneWay, RunsDoNotRepeat, StackIsBounded, MovesAreBounded, ShiftedBeginsAText, WrongPlaceIsFirst, TextsAreRead, NextSignsAreMoves, NextSignsAreKnown}
use Rattle.parser.proofs.Runs.{accepts_made}
use Rattle.parser.proofs.Sound.{made_accepts}
use Rattle.parser.proofs.Deterministic.{beginning_of_stuck}
use Rattle.parser.proofs.NoRepeat.{no_repeat}
use Rattle.parser.proofs.StackBound.{stack_bounded}
use Rattle.parser.proofs.MoveBound.{moves_bounded}
use Rattle.parser.proofs.Wrong.{shifted_begins, outcome}
use Rattle.parser.proofs.Halts.{halts}
use Rattle.parser.proofs.NextSigns.{may_come, comes_by_move}
use Rattle.parser.proofs.Continues.{continues}

pub runs_are_readings_lem : RunsAreReadings
unfolding RunsAreReadings
runs_are_readings_lem g a = (λ ds ts m. accepts_made g (sizes g a) ds ts m, λ rs ts R. made_accepts (sizes g a).rules R)

pub runs_are_one_way_lem : RunsAreOneWay
unfolding RunsAreOneWay
runs_are_one_way_lem g a u h γ γ₁ γ₂ us vs ρ₁ ρ₂ rs qs e R k S = beginning_of_stuck g (no_conflict g (sizes g a) u h) e k R S

pub runs_do_not_repeat_lem : RunsDoNotRepeat
unfolding RunsDoNotRepeat
runs_do_not_repeat_lem g a u h γ ρ rs R = go rs refl
  where
    go : (qs : List ℕ) → rs ≡ qs → rs ≡ []
    go [] e = e
    go (q ∷ qs) e = absurd (no_repeat g (sizes g a) (no_conflict g (sizes g a) u h) refl refl (omega (arith, ap length e)) R)

pub stack_is_bounded_lem : StackIsBounded
unfolding StackIsBounded
stack_is_bounded_lem g a u h γ us ρ rs R = stack_bounded g (sizes g a) u (no_conflict g (sizes g a) u h) R

pub moves_are_bounded_lem : MovesAreBounded
unfolding MovesAreBounded
moves_are_bounded_lem g a u h n γ us ρ rs k R = moves_bounded g (sizes g a) (no_conflict g (sizes g a) u h) u n k R

pub shifted_begins_a_text_lem : ShiftedBeginsAText
unfolding ShiftedBeginsAText
shifted_begins_a_text_lem g a u γ us ρ rs R = shifted_begins g (sizes g a) u R

pub wrong_place_is_first_lem : WrongPlaceIsFirst
unfolding WrongPlaceIsFirst
wrong_place_is_first_lem g a u h γ us ρ rs k R s = outcome g (sizes g a) u (no_conflict g (sizes g a) u h) k R s

pub texts_are_read_lem : TextsAreRead
unfolding TextsAreRead
texts_are_read_lem g a u h can test ts k =
    let r = halts g (sizes g a) can test ts k [] in
    let s = outcome g (sizes g a) u (no_conflict g (sizes g a) u h) (subst (λ l. every (λ t. ltb t 24) l ≡ true) r.adds k) r.run r.stuck in
    (r, subst (λ l. Outcome g l r.shifted r.rules) (sym r.adds) s)

pub next_signs_are_moves_lem : NextSignsAreMoves
unfolding NextSignsAreMoves
next_signs_are_moves_lem g a u h γ us rs R t = (
  may_come g (sizes g a) u (record { top = γ; rules = rs; run = R }) t,
  comes_by_move g (sizes g a) u (record { top = γ; rules = rs; run = R }) (no_conflict g (sizes g a) u h) t,
)

pub next_signs_are_known_lem : NextSignsAreKnown
unfolding NextSignsAreKnown
next_signs_are_known_lem g a u h can test ts k = continues g (sizes g a) u (no_conflict g (sizes g a) u h) can test ts k
