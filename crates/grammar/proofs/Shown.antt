-- The byte that a table has at a place is that of the row there, in the grammar that it shows.
use Rattle.std.proofs.Common.{◌≡◌, ℕ, ◌<◌, arith}
use Rattle.std.proofs.lemmas.Bool.{lt-ltb}
use Rattle.grammar.specs.declared.table.Table.{Table}
use Rattle.grammar.specs.Grammar.{Grammar}
use Rattle.grammar.specs.Places.{places, rest, next_code}
use Rattle.grammar.specs.Table.{Shows, symbol_in}
use Rattle.grammar.proofs.Places.{places_bound}

pub symbol_shown : {t : Table} {g : Grammar} → Shows t g → (p : ℕ) → p < places g → symbol_in t p ≡ next_code (rest g p)
symbol_shown {g = g} s p h = let k : p < 192 = omega (arith, places_bound g s.fits) in rw (lt-ltb p 192 k) (s.holds.symbols p h)
