-- The worked examples in one table: the grammars, and for each row what is so of it. Assumes nothing: these are definitions and statements.
use Rattle.std.specs.Prelude.{◌≡◌, ℕ, zero, suc, true, List, [], ◌∷◌}
use Rattle.grammar.specs.Grammar.{backwards, Sym, sign, name, Rule, Grammar, a_grammar, Makes, Clash, Clashes, Useful, AllUseful, in_grammar}
use Rattle.grammar.specs.Texts.{Begins, NotMade, FirstWrong, Follows}

-- a rule: this name may be this row
abbrev pub may_be : ℕ → List Sym → Rule
may_be n row = record { left = n; right = row }

-- a clash: the rule that is due, the other one, or 64 for going on, and the sign ahead
abbrev pub clash : ℕ → ℕ → ℕ → Clash
clash r q t = record { due = r; other = q; ahead = t }

-- HOW ROWS ARE STATED

-- a reduced grammar: it fits, and every name is of use
abbrev pub Reduced : Grammar → Type 0
Reduced g = (a_grammar g ≡ true) × AllUseful g

-- a text, and its reading as it is shown: the rule that was used last comes first
abbrev pub Reads : Grammar → List ℕ → List ℕ → Type 0
Reads g ts shown = (ds : List ℕ) × Makes g ds ts × (backwards ds ≡ shown)

-- no text, and its first wrong place
abbrev pub WrongAt : Grammar → List ℕ → ℕ → Type 0
WrongAt g ts p = NotMade g ts × FirstWrong g ts p

-- what begins a text, and all that may come next, 24 for the end
abbrev pub GoesOnBy : Grammar → List ℕ → List ℕ → Type 0
GoesOnBy g ts ks = Begins g ts × Follows g ts ks

-- a grammar for which one sign ahead is not enough, and for nothing else it would be refused
abbrev pub RefusedForClash : Grammar → Clash → Type 0
RefusedForClash g c = Reduced g × Clashes g c

-- a grammar that has a name of no use
abbrev pub RefusedForName : Grammar → ℕ → Type 0
RefusedForName g n = (a_grammar g ≡ true) × (in_grammar g n ≡ true) × (Useful g n → zero ≡ suc zero)

-- THE GRAMMARS

-- signs of sums: + x ( )
abbrev pub plus : ℕ
plus = 0

abbrev pub x : ℕ
x = 1

abbrev pub opened : ℕ
opened = 2

abbrev pub closed : ℕ
closed = 3

-- and what is ahead at the end of a text
abbrev pub end : ℕ
end = 24

-- names of sums
abbrev pub sum : ℕ
sum = 1

abbrev pub one : ℕ
one = 2

-- sum = sum + one; sum = one; one = x; one = ( sum )
abbrev pub sums : Grammar
sums =
    may_be 0 (name sum ∷ [])
    ∷ may_be sum (name sum ∷ sign plus ∷ name one ∷ [])
    ∷ may_be sum (name one ∷ [])
    ∷ may_be one (sign x ∷ [])
    ∷ may_be one (sign opened ∷ name sum ∷ sign closed ∷ [])
    ∷ []

-- sum = sum + sum; sum = x
abbrev pub sums_of_sums : Grammar
sums_of_sums =
    may_be 0 (name sum ∷ [])
    ∷ may_be sum (name sum ∷ sign plus ∷ name sum ∷ [])
    ∷ may_be sum (sign x ∷ [])
    ∷ []

-- if = 0 if 1 if; if = 0 if; if = 3, where `if` is name 1: the dangling else
abbrev pub ifs : Grammar
ifs =
    may_be 0 (name 1 ∷ [])
    ∷ may_be 1 (sign 0 ∷ name 1 ∷ sign 1 ∷ name 1 ∷ [])
    ∷ may_be 1 (sign 0 ∷ name 1 ∷ [])
    ∷ may_be 1 (sign 3 ∷ [])
    ∷ []

-- it = 0 other; it = 0; other = 1 other, where `it` is name 1 and `other` name 2: other comes to no end
abbrev pub endless : Grammar
endless =
    may_be 0 (name 1 ∷ [])
    ∷ may_be 1 (sign 0 ∷ name 2 ∷ [])
    ∷ may_be 1 (sign 0 ∷ [])
    ∷ may_be 2 (sign 1 ∷ name 2 ∷ [])
    ∷ []

-- THE TABLE

-- The grammar of sums is reduced.
unfoldable pub SumsReduced : Type 0
SumsReduced = Reduced sums

-- x + ( x ) is read by these rules, in the order in which they end.
unfoldable pub SumRead : Type 0
SumRead = Reads sums (x ∷ plus ∷ opened ∷ x ∷ closed ∷ []) (3 ∷ 2 ∷ 3 ∷ 2 ∷ 4 ∷ 1 ∷ 0 ∷ [])

-- x + ) is no text: the bracket is the first wrong sign.
unfoldable pub BracketWrong : Type 0
BracketWrong = WrongAt sums (x ∷ plus ∷ closed ∷ []) 2

-- Behind x comes +, or the end.
unfoldable pub NextBehindX : Type 0
NextBehindX = GoesOnBy sums (x ∷ []) (plus ∷ end ∷ [])

-- Before +, sum = sum + sum is due, or one goes on; and x + x + x has two readings.
unfoldable pub SumsClash : Type 0
SumsClash =
    RefusedForClash sums_of_sums (clash 1 64 plus)
    × Reads sums_of_sums (x ∷ plus ∷ x ∷ plus ∷ x ∷ []) (2 ∷ 2 ∷ 1 ∷ 2 ∷ 1 ∷ 0 ∷ [])
    × Reads sums_of_sums (x ∷ plus ∷ x ∷ plus ∷ x ∷ []) (2 ∷ 2 ∷ 2 ∷ 1 ∷ 1 ∷ 0 ∷ [])

-- Before 1, if = 0 if is due, or one goes on; and 0 0 3 1 3 has two readings.
unfoldable pub IfsClash : Type 0
IfsClash =
    RefusedForClash ifs (clash 2 64 1)
    × Reads ifs (0 ∷ 0 ∷ 3 ∷ 1 ∷ 3 ∷ []) (3 ∷ 2 ∷ 3 ∷ 1 ∷ 0 ∷ [])
    × Reads ifs (0 ∷ 0 ∷ 3 ∷ 1 ∷ 3 ∷ []) (3 ∷ 3 ∷ 1 ∷ 2 ∷ 0 ∷ [])

-- The name `other` is of no use, though the grammar has a text.
unfoldable pub OtherUseless : Type 0
OtherUseless = RefusedForName endless 2 × Reads endless (0 ∷ []) (2 ∷ 0 ∷ [])
