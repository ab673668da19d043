-- What is read off a row of symbols, by marks of names: whether it can vanish, what it can begin with, whether it comes to signs. Assumes nothing: these are definitions.
use Rattle.std.specs.Prelude.{ℕ, Bool, true, false, ◌&&◌, List, [], ◌∷◌, ◌==◌, bit_or, slice_index}
use Rattle.words.specs.Bits.{has_bit, bit_of}
use Rattle.grammar.specs.Grammar.{pick, Sym, sign, name}

-- the row vanishes, if the names of N can
unfoldable pub vanishing : ℕ → List Sym → Bool
vanishing N [] = true
vanishing N (sign t ∷ β) = false
vanishing N (name n ∷ β) = has_bit n N && vanishing N β

-- the row comes to signs, if the names of P do
unfoldable pub producing : ℕ → List Sym → Bool
producing P [] = true
producing P (sign t ∷ β) = producing P β
producing P (name n ∷ β) = has_bit n P && producing P β

-- the row has no other symbols than names of N, and signs if b says so
unfoldable pub holding : Bool → ℕ → List Sym → Bool
holding b N [] = true
holding b N (sign t ∷ β) = b && holding b N β
holding b N (name n ∷ β) = has_bit n N && holding b N β

-- what the one or the other is: with signs it comes to signs, without it vanishes
abbrev pub coming : Bool → ℕ → List Sym → Bool
coming b = pick b producing vanishing

-- the signs that the row can begin with, if the names of N can vanish and each name can begin as F has it
unfoldable pub opening : ℕ → List ℕ → List Sym → ℕ
opening N F [] = 0
opening N F (sign t ∷ β) = bit_of t
opening N F (name n ∷ β) = bit_or (slice_index F n) (pick (has_bit n N) (opening N F β) 0)

-- the names that stand in the row
unfoldable pub named : List Sym → ℕ
named [] = 0
named (sign t ∷ β) = named β
named (name n ∷ β) = bit_or (bit_of n) (named β)

-- whether the row begins with this name
unfoldable pub begins_with : ℕ → List Sym → Bool
begins_with n [] = false
begins_with n (sign t ∷ β) = false
begins_with n (name m ∷ β) = n == m
