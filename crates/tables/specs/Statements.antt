-- What is so of item sets and of reading by a table. Each statement is a type whose proof is owed. Assumes nothing.
use Rattle.std.specs.Prelude.{◌≡◌, ℕ, suc, ◌+◌, ◌*◌, ◌<◌, ◌≤◌, Bool, true, false, ◌↔◌, List, [], ◌∷◌, ◌++◌, length, drop, nat_lt, slice_index}
use Rattle.grammar.specs.Grammar.{every, backwards, Sym, Grammar, rule, a_grammar, AllUseful, Enough, Makes}
use Rattle.grammar.specs.Texts.{NotMade, FirstWrong}
use Rattle.items.specs.Items.{onto, Valid}
use Rattle.tables.specs.Sets.{Stands, Viable, Alike, Sets, AtLeast}
use Rattle.tables.specs.ByTable.{Goes, RightTable}
use Rattle.parser.specs.DriveStatements.{most_symbols, most_moves, Checked}
use Rattle.tables.specs.TableDrive.{table_check, Tells, ComesTo}
use Rattle.tables.specs.Making.{Making, made}

-- The items that stand behind a row are those that are valid behind it as a stack.
unfoldable pub StandsIsValid : Type 0
StandsIsValid =
    (g : Grammar) (f : List Sym) (r d t : ℕ) → a_grammar g ≡ true →
    Stands g f r d t ↔ ((d ≤ length (rule g r).right) × Valid g (onto f []) r (drop d (rule g r).right) t)

-- How many sets there are is one number.
unfoldable pub SetsOnce : Type 0
SetsOnce = (g : Grammar) (n m : ℕ) → Sets g n → Sets g m → n ≡ m

-- There are at least so many just if the number is not less.
unfoldable pub AtLeastSo : Type 0
AtLeastSo = (g : Grammar) (n m : ℕ) → Sets g m → AtLeast g n ↔ (n ≤ m)

-- What is alike stays so behind one more symbol.
unfoldable pub AlikeGoesOn : Type 0
AlikeGoesOn = (g : Grammar) (f h : List Sym) (x : Sym) → a_grammar g ≡ true → Alike g f h → Alike g (f ++ x ∷ []) (h ++ x ∷ [])

-- The empty row is viable, and alike to no other.
unfoldable pub FirstIsAlone : Type 0
FirstIsAlone = (g : Grammar) → a_grammar g ≡ true → Viable g [] × ((f : List Sym) → Alike g [] f → f ≡ [])

-- By a right table every text is read, in as many steps as it has signs and its reading rules, and one.
unfoldable pub TableReads : Type 0
TableReads =
    (g : Grammar) (number : List Sym → ℕ) (T ds ts : List ℕ) → a_grammar g ≡ true → RightTable g (Valid g) number T → Makes g ds ts →
    Goes g T (0 ∷ []) ts (length ts + length ds + 1) (backwards ds) true 0

-- And what is no text is refused at its first wrong place.
unfoldable pub TableRefuses : Type 0
TableRefuses =
    (g : Grammar) (number : List Sym → ℕ) (T ts : List ℕ) (p : ℕ) → a_grammar g ≡ true → AllUseful g → Enough g → RightTable g (Valid g) number T →
    every (λ t. nat_lt t 24) ts ≡ true → NotMade g ts → FirstWrong g ts p →
    (n : ℕ) × (rs : List ℕ) × (l : ℕ) × Goes g T (0 ∷ []) ts n rs false l × (p + l ≡ length ts)

-- Whatever the table, it goes in one way.
unfoldable pub GoesOnce : Type 0
GoesOnce =
    (g : Grammar) (T ss ρ : List ℕ) (k j : ℕ) (rs qs : List ℕ) (b c : Bool) (l m : ℕ) → Goes g T ss ρ k rs b l → Goes g T ss ρ j qs c m →
    (k ≡ j) × (rs ≡ qs) × (b ≡ c) × (l ≡ m)

-- With steps enough, a silent run by a right table accepts the texts, and of every other row it says where it is first wrong.
unfoldable pub TableCheckIsExact : Type 0
TableCheckIsExact =
    (g : Grammar) (number : List Sym → ℕ) (T ts : List ℕ) (steps : ℕ) → a_grammar g ≡ true → AllUseful g → Enough g → RightTable g (Valid g) number T →
    every (λ t. nat_lt t 24) ts ≡ true → most_moves (length ts) ≤ steps → Checked g ts (table_check g T ts steps)

-- The rules told of a text one by one are its reading, from the last step of the derivation to the first.
unfoldable pub TableTellingIsTheReading : Type 0
TableTellingIsTheReading =
    (g : Grammar) (number : List Sym → ℕ) (T ds ts : List ℕ) → a_grammar g ≡ true → RightTable g (Valid g) number T → Makes g ds ts →
    Tells g T (0 ∷ []) ts (backwards ds)

-- The sets are never more than the symbols of a stack, and one.
unfoldable pub TableStackIsBounded : Type 0
TableStackIsBounded =
    (g : Grammar) (number : List Sym → ℕ) (T ts ss ρ : List ℕ) → a_grammar g ≡ true → AllUseful g → Enough g → RightTable g (Valid g) number T →
    every (λ t. nat_lt t 24) ts ≡ true → ComesTo g T (0 ∷ []) ts ss ρ → length ss ≤ most_symbols (length ts) + 1

-- a whole table: there are as many sets as kernels, 56 entries for each, below 65 more than that; and where one look ahead is enough the table is right
pub record WholeTable (g : Grammar) (limit : ℕ) (m : Making) : Type 0 where
  pub sets : Sets g (length m.kernels)
  pub few : length m.kernels ≤ limit
  pub long : length m.table ≡ length m.kernels * 56
  pub small : (i : ℕ) → i < length m.table → slice_index m.table i < 65 + length m.kernels
  pub right : Enough g → RightTable g (Valid g) (λ γ. sets.number (onto γ [])) m.table

-- If every name is of use, the table that is made is whole, if there are no more sets than the limit; and if it is given up there are more.
unfoldable pub TableIsMade : Type 0
TableIsMade =
    (g : Grammar) (limit : ℕ) → a_grammar g ≡ true → AllUseful g → 0 < limit →
    ((made g limit).too_many ≡ false → WholeTable g limit (made g limit)) × ((made g limit).too_many ≡ true → AtLeast g (suc limit))
