-- What a silent run on lent memory says of a text, for a grammar that was taken. Assumes nothing: these are definitions.
use Rattle.std.specs.Prelude.{◌≡◌, ℕ, ◌-◌, ◌*◌, ◌^◌, ◌≤◌, true, List, length, nat_lt, Result}
use Rattle.grammar.specs.declared.prepared.Prepared.{Prepared}
use Rattle.grammar.specs.Grammar.{every, Grammar, AllUseful, Enough}
use Rattle.grammar.specs.Prepared.{Describes}
use Rattle.parser.specs.declared.check.Unread.{Unread}
use Rattle.parser.specs.DriveStatements.{Checked, GoesOn, most_symbols, most_moves}
use Rattle.parser.specs.Told.{ended, followed}

-- with n words lent, of which the first hold the countdown: if there is room for the stack and the moves of such a text, it is accepted just if it is made,
-- and else wrong at the first wrong place
abbrev pub Checks : Prepared → (n fuel : ℕ) → List ℕ → Result Unit Unread → Type 0
Checks p n fuel text r =
    (g : Grammar) → Describes p g → AllUseful g → Enough g → every (λ t. nat_lt t 24) text ≡ true → fuel ≤ n →
    most_symbols (length text) ≤ 8 * (n - fuel) → most_moves (length text) ≤ 2 ^ (64 * fuel) - 1 → Checked g text (ended r)

-- and so of how it goes on: by just these signs, or it begins no text and is wrong at the first wrong place
abbrev pub TellsNext : Prepared → (n fuel : ℕ) → List ℕ → Result ℕ Unread → Type 0
TellsNext p n fuel text r =
    (g : Grammar) → Describes p g → AllUseful g → Enough g → every (λ t. nat_lt t 24) text ≡ true → fuel ≤ n →
    most_symbols (length text) ≤ 8 * (n - fuel) → most_moves (length text) ≤ 2 ^ (64 * fuel) - 1 → GoesOn g text (followed r)
