-- What is so of every grammar, whatever reads its texts. Each statement is a type whose proof is owed. Assumes nothing.
use Rattle.std.specs.Prelude.{◌≡◌, ℕ, ◌<◌, true, false, List, [], ◌∷◌, ◌++◌, length, ◌==◌, nat_lt}
use Rattle.grammar.specs.Grammar.{every, none_of, Sym, name, Grammar, a_grammar, rule, form, signs, Makes, Clash, Clashes, Enough, AllUseful, all_signs, last_name, Split}
use Rattle.grammar.specs.Texts.{Begins, FirstWrong, Follows}

-- If one look ahead is enough, every text has one reading at most.
unfoldable pub OneReading : Type 0
OneReading =
    (g : Grammar) (ds es ts : List ℕ) → a_grammar g ≡ true → Enough g → Makes g ds ts → Makes g es ts → ds ≡ es

-- If every name is of use, whatever comes on the way to a text can be gone on from: the beginning of a form's signs is some text's beginning.
unfoldable pub GoesOn : Type 0
GoesOn =
    (g : Grammar) (ds ts : List ℕ) (ss : List Sym) → a_grammar g ≡ true → AllUseful g → form g ds ≡ (signs ts ++ ss) ∷ [] → Begins g ts

-- What begins no text, begins none with more behind it; and there's one first wrong place.
unfoldable pub WrongOnce : Type 0
WrongOnce =
    (g : Grammar) (ts us : List ℕ) (p q : ℕ) → (Begins g (ts ++ us) → Begins g ts) × (FirstWrong g ts p → FirstWrong g ts q → p ≡ q)

-- What may come next says how texts go on: if nothing may, there's no such beginning.
unfoldable pub SomethingComes : Type 0
SomethingComes = (g : Grammar) (ts ks : List ℕ) → Begins g ts → every (λ t. nat_lt t 24) ts ≡ true → a_grammar g ≡ true → Follows g ts ks → none_of ks ≡ false

-- Forms from the right: signs stand behind the last name, and a rule changes nothing before it.
unfoldable pub LastRight : Type 0
LastRight =
    (f : List Sym) (x : Split) (xs : List Split) → last_name f ≡ x ∷ xs →
    (f ≡ x.before ++ name x.at ∷ x.behind) × (all_signs x.behind ≡ true) × (xs ≡ [])

-- Two rules with the same sides always clash.
unfoldable pub TwinsClash : Type 0
TwinsClash =
    (g : Grammar) (r q : ℕ) → a_grammar g ≡ true → AllUseful g → r < length g → q < length g → (r == q) ≡ false → rule g r ≡ rule g q →
    (c : Clash) × Clashes g c
