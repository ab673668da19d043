-- What code computes of the grammar that its table shows. Assumes nothing: these are definitions.
use Rattle.std.specs.Prelude.{◌≡◌, ℕ, ◌<◌, List, Option, length}
use Rattle.grammar.specs.declared.symbol.Symbol.{Symbol}
use Rattle.grammar.specs.declared.table.Table.{Table}
use Rattle.grammar.specs.Grammar.{Grammar}
use Rattle.grammar.specs.Places.{places, rest}
use Rattle.grammar.specs.Symbols.{first_of_row, told_next}
use Rattle.grammar.specs.Table.{Shows}
use Rattle.items.specs.Sets.{begin_rule}

-- r is what f says of a place
abbrev pub ComputedPlace : {A : Type 0} → Table → (Grammar → ℕ → A) → ℕ → A → Type 0
ComputedPlace t f p r = (g : Grammar) → Shows t g → p < places g → r ≡ f g p

-- r is s with rule k begun before m, at each place where this symbol is next
abbrev pub Begins : Table → Option Symbol → (k m : ℕ) → (s r : List ℕ) → Type 0
Begins t n k m s r = (g : Grammar) (p : ℕ) → Shows t g → p < places g → k < length g → told_next n ≡ first_of_row (rest g p) → r ≡ begin_rule g p m k s
