-- What a table says: the grammar that it holds, place by place and rule by rule. Assumes nothing: these are definitions.
use Rattle.std.specs.Prelude.{◌≡◌, ℕ, ◌+◌, ◌<◌, ◌≤◌, true, false, cond, List, length, drop, Some, None, Option, nat_lt, slice_index, slice_index_or}
use Rattle.grammar.specs.declared.table.Head.{Head}
use Rattle.grammar.specs.declared.table.Place.{Place}
use Rattle.grammar.specs.declared.table.Table.{Table}
use Rattle.grammar.specs.Grammar.{each, Sym, Grammar, rule, a_grammar}
use Rattle.grammar.specs.Spelling.{sym_spelled, grammar_of, Spells}
use Rattle.grammar.specs.Places.{places as places_of, rest, owner, first_place_lem, next_code}

-- WHAT A TABLE HAS at a place and of a rule; past the end 0, and for the symbol 64
abbrev pub code_in : Table → ℕ → ℕ
code_in t p = slice_index t.symbols p

abbrev pub symbol_in : Table → ℕ → ℕ
symbol_in t p = cond (nat_lt p 192) (code_in t p) 64

abbrev pub owner_in : Table → ℕ → ℕ
owner_in t p = slice_index t.owners p

abbrev pub no_head : Head
no_head = record { first = 0; left = 0 }

abbrev pub head_in : Table → ℕ → Head
head_in t k = slice_index_or t.heads k no_head

abbrev pub first_in : Table → ℕ → ℕ
first_in t k = (head_in t k).first

abbrev pub left_in : Table → ℕ → ℕ
left_in t k = (head_in t k).left

-- the rules are these, and nothing is said past them
pub record Holds (t : Table) (g : Grammar) : Type 0 where
  pub rules : t.rules ≡ length g
  pub places : t.places ≡ places_of g
  pub symbols : (p : ℕ) → p < places_of g → code_in t p ≡ next_code (rest g p)
  pub owners : (p : ℕ) → p < places_of g → owner_in t p ≡ owner g p
  pub firsts : (k : ℕ) → k < length g → first_in t k ≡ first_place_lem g k
  pub lefts : (k : ℕ) → k < length g → left_in t k ≡ (rule g k).left

-- and they fit
pub record Shows (t : Table) (g : Grammar) : Type 0 where
  pub fits : a_grammar g ≡ true
  pub holds : Holds t g

-- p is the place of the grammar in this rule, with so many symbols done
pub record Marks (g : Grammar) (p : ℕ) (m : Place) : Type 0 where
  pub within : p < places_of g
  pub owned : m.rule ≡ owner g p
  pub number : first_place_lem g m.rule + m.dot ≡ p
  pub done : m.dot ≤ length (rule g m.rule).right
  pub coming : drop m.dot (rule g m.rule).right ≡ rest g p

-- THE ANSWERS of a table that shows a grammar: the place of a number
abbrev pub PlaceOf : Table → ℕ → Place → Type 0
PlaceOf t p m = (g : Grammar) → Shows t g → p < places_of g → Marks g p m

-- the number of a place
abbrev pub NumberOf : Table → Place → ℕ → Type 0
NumberOf t m p = (g : Grammar) → Shows t g → m.rule < length g → m.dot ≤ length (rule g m.rule).right → Marks g p m

-- r is what f says of the row that comes at the place
abbrev pub ReadOff : {A : Type 0} → Table → (List Sym → A) → ℕ → A → Type 0
ReadOff t f p r = (g : Grammar) → Shows t g → p < places_of g → r ≡ f (rest g p)

-- the bytes are those of the row that comes at the place
abbrev pub RowAt : Table → ℕ → List ℕ → Type 0
RowAt t p bs = ReadOff t (each sym_spelled) p bs

-- r is what f says of the grammar; and of one of its rules
abbrev pub OfGrammar : {A : Type 0} → Table → (Grammar → A) → A → Type 0
OfGrammar t f r = (g : Grammar) → Shows t g → r ≡ f g

abbrev pub OfRule : {A : Type 0} → Table → (Grammar → ℕ → A) → ℕ → A → Type 0
OfRule t f k r = (g : Grammar) → Shows t g → k < length g → r ≡ f g k

-- r is what f says of the grammar, if n is what h does
abbrev pub OfGrammarWith : {A B : Type 0} → Table → (Grammar → A) → A → (Grammar → B) → B → Type 0
OfGrammarWith t h n f r = (g : Grammar) → Shows t g → n ≡ h g → r ≡ f g

-- the table u is t and one more rule, of this name and with this row
pub record Added (t : Table) (left : ℕ) (row : List ℕ) (u : Table) : Type 0 where
  pub rules : u.rules ≡ t.rules + 1
  pub places : u.places ≡ t.places + length row + 1
  pub symbols_kept : (p : ℕ) → p < t.places → code_in u p ≡ code_in t p
  pub symbols_new : (d : ℕ) → d ≤ length row → code_in u (t.places + d) ≡ slice_index_or row d 64
  pub owners_kept : (p : ℕ) → p < t.places → owner_in u p ≡ owner_in t p
  pub owners_new : (d : ℕ) → d ≤ length row → owner_in u (t.places + d) ≡ t.rules
  pub firsts_kept : (k : ℕ) → k < t.rules → first_in u k ≡ first_in t k
  pub first_new : first_in u t.rules ≡ t.places
  pub lefts_kept : (k : ℕ) → k < t.rules → left_in u k ≡ left_in t k
  pub left_new : left_in u t.rules ≡ left

-- what a reading of bytes answers: the grammar that they spell, in a table; or that they spell none
abbrev pub Answers : List ℕ → Option Table → Type 0
Answers bs None = Spells false bs
Answers bs (Some t) = Spells true bs × Shows t (grammar_of bs)
