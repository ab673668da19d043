-- How a grammar is spelled in bytes: which grammar bytes could spell, and whether they do. Assumes nothing: these are definitions.
use Rattle.std.specs.Prelude.{◌≡◌, ℕ, zero, suc, ◌+◌, ◌-◌, Bool, true, false, ◌&&◌, List, [], ◌∷◌, ◌++◌, length, take, drop, ◌==◌, nat_le, nat_lt}
use Rattle.grammar.specs.Grammar.{pick, every, each, none_of, Sym, sign, name, Rule, Grammar, a_grammar}

-- a sign is its own byte, a name stands from 32 on
unfoldable pub sym_spelled : Sym → ℕ
sym_spelled (sign n) = n
sym_spelled (name n) = 32 + n

unfoldable pub flat : {A B : Type 0} → (A → List B) → List A → List B
flat f [] = []
flat f (x ∷ xs) = f x ++ flat f xs

-- a rule's left side, how many symbols are on its right, and these
abbrev pub rule_spelled : Rule → List ℕ
rule_spelled r = r.left ∷ length r.right ∷ each sym_spelled r.right

-- how many rules, and the rules
abbrev pub grammar_spelled : Grammar → List ℕ
grammar_spelled g = length g ∷ flat rule_spelled g

-- THE WAY BACK: the symbol of a byte, the rules of bytes, whatever they are
abbrev pub sym_of : ℕ → Sym
sym_of b = pick (nat_lt b 32) (sign b) (name (b - 32))

unfoldable pub rules_of : ℕ → List ℕ → List Rule
rules_of zero bs = []
rules_of (suc n) [] = []
rules_of (suc n) (l ∷ []) = []
rules_of (suc n) (l ∷ c ∷ bs) = record { left = l; right = each sym_of (take c bs) } ∷ rules_of n (drop c bs)

unfoldable pub grammar_of : List ℕ → Grammar
grammar_of [] = []
grammar_of (n ∷ bs) = rules_of n bs

-- AND WHETHER BYTES ARE THE SPELLING OF THAT
-- a byte of a symbol: a sign, or a name
abbrev pub symbol_ok : ℕ → Bool
symbol_ok b = pick (nat_lt b 24) true (nat_le 32 b && nat_lt b 64)

-- a byte of a right side: a sign, or a name but the beginning's
abbrev pub byte_ok : ℕ → Bool
byte_ok b = pick (nat_lt b 24) true (nat_le 33 b && nat_lt b 64)

-- a later rule's first two bytes, where so many bytes are behind them and so many symbols may still come
abbrev pub head_ok : (l c rest room : ℕ) → Bool
head_ok l c rest room = (nat_le 1 l && nat_lt l 32) && (nat_le c rest && nat_le c room)

-- how many rules, and the first
abbrev pub first_ok : (n l c s : ℕ) → Bool
first_ok n l c s = (nat_le 1 n && nat_le n 64) && ((l == 0 && c == 1) && byte_ok s)

-- so many later rules, with so many symbols on their right sides at most, and nothing behind them
unfoldable pub rules_ok : ℕ → ℕ → List ℕ → Bool
rules_ok zero room bs = none_of bs
rules_ok (suc n) room [] = false
rules_ok (suc n) room (l ∷ []) = false
rules_ok (suc n) room (l ∷ c ∷ bs) =
    head_ok l c (length bs) room && (every byte_ok (take c bs) && rules_ok n (room - c) (drop c bs))

unfoldable pub grammar_ok : List ℕ → Bool
grammar_ok [] = false
grammar_ok (n ∷ []) = false
grammar_ok (n ∷ l ∷ []) = false
grammar_ok (n ∷ l ∷ c ∷ []) = false
grammar_ok (n ∷ l ∷ c ∷ s ∷ bs) = first_ok n l c s && rules_ok (n - 1) 127 bs

-- THE MEANING OF THE ANSWER: the bytes spell a grammar that fits, or none
unfoldable pub Spells : Bool → List ℕ → Type 0
Spells true bs = (a_grammar (grammar_of bs) ≡ true) × (grammar_spelled (grammar_of bs) ≡ bs)
Spells false bs = (g : Grammar) → a_grammar g ≡ true → grammar_spelled g ≡ bs → zero ≡ suc zero
