-- The words that stand for what the machine is at. Assumes nothing: these are definitions.
use Rattle.std.specs.Prelude.{◌≡◌, ℕ, true, false}
use Rattle.reader.specs.declared.memory.Phase.{Phase}
use Rattle.reader.specs.declared.memory.Phase.TheVariants.{Idle, Telling, Told, Refused}
use Rattle.reader.specs.Machine.{a_refusal}
use Rattle.reader.specs.Refusals.{refusal_code}

abbrev pub phase_code : Phase → ℕ
phase_code Idle = 0
phase_code Telling = 1
phase_code Told = 2
phase_code (Refused e) = refusal_code e

-- what a word stands for; one that stands for nothing else is idle
abbrev pub PhaseOf : ℕ → Phase → Type 0
PhaseOf w Idle = ((w ≡ 1 → ⊥) × (w ≡ 2 → ⊥)) × (a_refusal w ≡ false)
PhaseOf w Telling = w ≡ 1
PhaseOf w Told = w ≡ 2
PhaseOf w (Refused e) = (refusal_code e ≡ w) × (a_refusal w ≡ true)
