-- What is so of the parser that is driven by item sets. Each statement is a type whose proof is owed. Assumes nothing.
use Rattle.std.specs.Prelude.{◌≡◌, ℕ, suc, ◌+◌, ◌*◌, ◌^◌, ◌≤◌, true, not, List, [], ◌∷◌, ◌++◌, length, ◌==◌, nat_lt}
use Rattle.words.specs.Packed.{stacked}
use Rattle.grammar.specs.Grammar.{Grammar, every, backwards, a_grammar, AllUseful, Enough, Makes}
use Rattle.grammar.specs.Texts.{Begins, NotBegins, NotMade, FirstWrong, Follows}
use Rattle.parser.specs.Drive.{items_of, Config, Ending, accepted, wrong, gave_out, start_config, check_of, Following, followed_by, wrong_before, unknown, next_of, ends, none, advance_of}

-- symbols on the stack, and moves, on a text of at most n signs
abbrev pub most_symbols : ℕ → ℕ
most_symbols n = 128 * (n + 1)

unfoldable pub most_moves : ℕ → ℕ
most_moves n = 65 ^ most_symbols n * suc n

-- what an ending says of the text
unfoldable pub Checked : Grammar → List ℕ → Ending → Type 0
Checked g ts accepted = (ds : List ℕ) × Makes g ds ts
Checked g ts (wrong p) = NotMade g ts × FirstWrong g ts p
Checked g ts gave_out = ⊥

-- With room and moves enough, a silent run accepts the texts, and of every other row it says where it is first wrong.
unfoldable pub CheckIsExact : Type 0
CheckIsExact =
    (g : Grammar) → a_grammar g ≡ true → AllUseful g → Enough g → (n : ℕ) (ts : List ℕ) → length ts ≤ n → every (λ t. nat_lt t 24) ts ≡ true →
    (room moves : ℕ) → most_symbols n ≤ room → most_moves n ≤ moves → Checked g ts (check_of g ts room moves)

-- what is said of how a text goes on
unfoldable pub GoesOn : Grammar → List ℕ → Following → Type 0
GoesOn g ts (followed_by ks) = Begins g ts × Follows g ts ks
GoesOn g ts (wrong_before p) = NotBegins g ts × FirstWrong g ts p
GoesOn g ts unknown = ⊥

-- With room and moves enough, the run right behind the last sign tells what may come next, and of what begins no text it says where it is first wrong.
unfoldable pub NextIsExact : Type 0
NextIsExact =
    (g : Grammar) → a_grammar g ≡ true → AllUseful g → Enough g → (n : ℕ) (ts : List ℕ) → length ts ≤ n → every (λ t. nat_lt t 24) ts ≡ true →
    (room moves : ℕ) → most_symbols n ≤ room → most_moves n ≤ moves → GoesOn g ts (next_of g ts room moves)

-- the item set need not be remembered: it is that of the stack
abbrev pub Kept : Grammar → Config → Type 0
Kept g c = c.items ≡ items_of g (stacked c.height c.cells)

-- from c on, these are the rules that are told one by one, and no more
unfoldable pub Tells : Grammar → List ℕ → Config → List ℕ → Type 0
Tells g ts c [] = advance_of g ts c ≡ none
Tells g ts c (r ∷ rs) = (d : Config) × (advance_of g ts c ≡ ends r d) × Kept g d × Tells g ts d rs

-- the first rule of the grammar comes last, and only there
abbrev pub EndsWithFirst : List ℕ → Type 0
EndsWithFirst rs = (qs : List ℕ) × (rs ≡ qs ++ 0 ∷ []) × (every (λ r. not (r == 0)) qs ≡ true)

-- With room enough, the rules told of a text are its reading, from the last step of the derivation to the first.
unfoldable pub TellingIsTheReading : Type 0
TellingIsTheReading =
    (g : Grammar) → a_grammar g ≡ true → AllUseful g → Enough g → (n : ℕ) (ds ts : List ℕ) → length ts ≤ n → Makes g ds ts →
    (room : ℕ) → most_symbols n ≤ room → Tells g ts (start_config g room) (backwards ds) × EndsWithFirst (backwards ds)

-- Whatever the grammar, the item set need not be remembered between two rules.
unfoldable pub ItemsAreKept : Type 0
ItemsAreKept =
    (g : Grammar) (ts : List ℕ) →
    ((room : ℕ) → Kept g (start_config g room)) × ((c d : Config) (r : ℕ) → Kept g c → advance_of g ts c ≡ ends r d → Kept g d)
