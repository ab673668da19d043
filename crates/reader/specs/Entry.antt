-- What the entry that finds the last name answers; and how a step of the whole machine is told to the world outside. Assumes nothing: these are
-- definitions.
use Rattle.std.specs.Prelude.{◌≡◌, ℕ, suc, Bool, true, false, ◌&&◌, List, [], ◌∷◌, ◌++◌, length, drop, ◌==◌, nat_le, nat_lt, Option, Some, None, Result, Ok, Err}
use Rattle.grammar.specs.Grammar.{pick, every, none_of}
use Rattle.grammar.specs.Spelling.{symbol_ok}
use Rattle.reader.specs.declared.refusal.Refusal.{Refusal}
use Rattle.reader.specs.declared.refusal.Refusal.TheVariants.{Sizes, NoCommand}
use Rattle.reader.specs.declared.Told.{Told}
use Rattle.reader.specs.declared.Told.TheVariants.{Shows, Done, No}
use Rattle.reader.specs.Promise.{Engine, Event, said, next, Act, shows, done, refused, Step}
use Rattle.reader.specs.Refusals.{refusal_code}
use Rattle.reader.specs.Memory.{Layout}
use Rattle.reader.specs.Machine.{machine}

abbrev pub smaller : ℕ → ℕ → ℕ
smaller a b = pick (nat_lt a b) a b

-- symbols as bytes, names from 32 on: the place of the last name
unfoldable pub last_place : ℕ → List ℕ → List ℕ
last_place i [] = []
last_place i (b ∷ bs) = pick (none_of (last_place (suc i) bs)) (pick (nat_le 32 b) (i ∷ []) []) (last_place (suc i) bs)

unfoldable pub place_told : List ℕ → Option ℕ
place_told [] = None
place_told (p ∷ ps) = Some p

-- refused as no command if a byte is no symbol: 24 to 31, or above 63
unfoldable pub PlaceSays : List ℕ → Bool → Result (Option ℕ) Refusal → Type 0
PlaceSays bs true r = r ≡ Ok (place_told (last_place 0 bs))
PlaceSays bs false r = r ≡ Err NoCommand

abbrev pub are_symbols : List ℕ → Bool
are_symbols bs = every symbol_ok bs

-- THE MACHINE ITSELF, with its whole memory
unfoldable pub own_layout : Layout
own_layout = record { words = 524288; work = 4358; fuel = 49400; stack = 65553; pairs = 119311; pair_words = 36864 }

unfoldable pub own : Engine
own = machine own_layout

abbrev pub event_of : ℕ → List ℕ → Event
event_of k bs = pick (k == 0) (said bs) next

unfoldable pub ActTold : Act → Told → (out out₁ : List ℕ) → Type 0
ActTold (shows s) r out out₁ = (r ≡ Shows (length s)) × (out₁ ≡ s ++ drop (length s) out)
ActTold done r out out₁ = (r ≡ Done) × (out₁ ≡ out)
ActTold (refused k) r out out₁ = ((e : Refusal) × (r ≡ No e) × (refusal_code e ≡ k)) × (out₁ ≡ out)

-- a step of the machine, as it is told: its memory is lent, and what it shows stands in front in the lent row
abbrev pub StepTold : Step → Told → (out memory₁ out₁ : List ℕ) → Type 0
StepTold s r out memory₁ out₁ = (memory₁ ≡ s.memory) × ActTold s.act r out out₁

-- one step: for memories of the machine's own length, up to 4,097 bytes, and a lent row of 32 numbers; for others it is refused for its sizes and nothing is changed
unfoldable pub StepSays : (memory : List ℕ) (kind : ℕ) (text out : List ℕ) → Bool → Told → (memory₁ out₁ : List ℕ) → Type 0
StepSays memory kind text out true r memory₁ out₁ = StepTold (own.step memory (event_of kind text)) r out memory₁ out₁
StepSays memory kind text out false r memory₁ out₁ = (r ≡ No Sizes) × (memory₁ ≡ memory) × (out₁ ≡ out)

unfoldable pub step_fits : (memory : List ℕ) (kind : ℕ) (text out : List ℕ) → Bool
step_fits memory kind text out = length memory == length own.start && (nat_le kind 1 && (nat_le (length text) 4097 && nat_le 32 (length out)))
