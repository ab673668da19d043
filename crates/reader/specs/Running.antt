-- What is promised of one command that is run to its end: how it went, and that it is answered as it may be. Assumes nothing: these are definitions.
use Rattle.std.specs.Prelude.{◌≡◌, ℕ, zero, ◌<◌, ◌≤◌, Bool, ◌&&◌, List, [], ◌∷◌, ◌++◌, length, take, Some, None, Option, ◌≢◌, nat_le, nat_lt}
use Rattle.grammar.specs.Grammar.{pick}
use Rattle.grammar.specs.Spelling.{flat}
use Rattle.reader.specs.declared.refusal.Refusal.{Refusal}
use Rattle.reader.specs.declared.run.Ended.{Ended}
use Rattle.reader.specs.Refusals.{refusal_code}
use Rattle.reader.specs.House.{Loaded, core}
use Rattle.reader.specs.Promise.{said, May, runs, ran}
use Rattle.reader.specs.Entry.{own, own_layout}
use Rattle.reader.specs.Holds.{Holds}

-- a row as it stands among those that were shown: its length before it
abbrev pub row_told : List ℕ → List ℕ
row_told s = length s ∷ s

-- no row stands in front
abbrev pub NoRow : List ℕ → Type 0
NoRow xs = (row rest : List ℕ) → xs ≢ row_told row ++ rest

-- how many numbers the rows take
abbrev pub room_for : List (List ℕ) → ℕ
room_for ss = length (flat row_told ss)

abbrev pub refusal_number : ℕ → Bool
refusal_number k = nat_le 1 k && nat_lt k 1000

-- the end that is told: 0 done, or the number of the refusal; one that no command is refused with would be a fault, as in a run
abbrev pub end_of : Option Refusal → ℕ
end_of None = 0
end_of (Some e) = pick (refusal_number (refusal_code e)) (refusal_code e) 1001

-- the machine's own run from this memory, on this row of bytes, ends so: m₁ is its memory then, and shown has the rows
pub record RanSo (m t m₁ shown : List ℕ) (end used : ℕ) : Type 0 where
  pub steps : ℕ
  pub rows : List (List ℕ)
  pub runs_so : runs steps own m (said t) [] ≡ ran m₁ rows end
  pub shown_so : take used shown ≡ flat row_told rows
  pub used_so : used ≡ room_for rows

-- the rows and the end are what may be answered with this loaded, and what is loaded then is what the memory holds
pub record MaySo (old : Loaded) (t m₁ shown : List ℕ) (end used : ℕ) : Type 0 where
  pub new : Loaded
  pub rows : List (List ℕ)
  pub may : May core t end rows old new
  pub holds : Holds own_layout m₁ new
  pub shown_so : take used shown ≡ flat row_told rows
  pub used_so : used ≡ room_for rows

-- what may be answered takes more than the room that there is
pub record NoRoom (old : Loaded) (t : List ℕ) (room : ℕ) : Type 0 where
  pub new : Loaded
  pub rows : List (List ℕ)
  pub end : ℕ
  pub may : May core t end rows old new
  pub more : room < room_for rows

abbrev pub RunsToItsEnd : (m t : List ℕ) → Option Ended → (m₁ shown : List ℕ) → Type 0
RunsToItsEnd m t None m₁ shown = zero ≡ zero
RunsToItsEnd m t (Some w) m₁ shown = RanSo m t m₁ shown (end_of w.refused) w.used

abbrev pub AnswersAsItMay : (m t : List ℕ) → Option Ended → (m₁ shown : List ℕ) → Type 0
AnswersAsItMay m t None m₁ shown = zero ≡ zero
AnswersAsItMay m t (Some w) m₁ shown = (old : Loaded) → Holds own_layout m old → MaySo old t m₁ shown (end_of w.refused) w.used

-- nothing is answered only where there is no room for it
abbrev pub AnswersIfRoom : (m t : List ℕ) → Option Ended → ℕ → Type 0
AnswersIfRoom m t None room = length t ≤ 4097 → (old : Loaded) → Holds own_layout m old → NoRoom old t room
AnswersIfRoom m t (Some w) room = zero ≡ zero

-- what the memory holds before the first command
unfoldable pub StartsWithNothing : Type 0
StartsWithNothing = Holds own_layout own.start []
