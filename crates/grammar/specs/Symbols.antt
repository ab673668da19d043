-- What the code's symbols mean. Assumes nothing: these are definitions.
use Rattle.std.specs.Prelude.{ℕ, cond, List, [], ◌∷◌, Some, None, Option, nat_lt}
use Rattle.grammar.specs.declared.symbol.Symbol.{Symbol}
use Rattle.grammar.specs.declared.symbol.Symbol.TheVariants.{Sign, Name}
use Rattle.grammar.specs.Grammar.{Sym, sign, name}
use Rattle.grammar.specs.Spelling.{sym_of}

-- the sign or the name
abbrev pub told : Symbol → Sym
told (Sign n) = sign n
told (Name n) = name n

abbrev pub told_next : Option Symbol → Option Sym
told_next None = None
told_next (Some s) = Some (told s)

-- the symbol that a row begins with, if it has any
unfoldable pub first_of_row : List Sym → Option Sym
first_of_row [] = None
first_of_row (x ∷ β) = Some x

-- the symbol of a place's byte; none from 64 on
abbrev pub next_of : ℕ → Option Sym
next_of b = cond (nat_lt b 64) (Some (sym_of b)) None
