-- The places of a grammar by number: rule by rule, and in each rule dot by dot. Assumes nothing: these are definitions.
use Rattle.std.specs.Prelude.{◌≡◌, ℕ, zero, suc, ◌+◌, ◌-◌, ◌<◌, List, [], ◌∷◌, ◌++◌, length, drop, nat_le}
use Rattle.grammar.specs.Grammar.{pick, Sym, Grammar, rule}
use Rattle.grammar.specs.Spelling.{sym_spelled}

-- how many there are: a rule has one before each of its symbols, and one behind them
unfoldable pub places : Grammar → ℕ
places [] = 0
places (r ∷ rs) = suc (length r.right) + places rs

-- what is still to come at a place
unfoldable pub rest : Grammar → ℕ → List Sym
rest [] p = []
rest (r ∷ rs) p = pick (nat_le p (length r.right)) (drop p r.right) (rest rs (p - suc (length r.right)))

-- the number of the rule that a place is in
unfoldable pub owner : Grammar → ℕ → ℕ
owner [] p = 0
owner (r ∷ rs) p = pick (nat_le p (length r.right)) 0 (suc (owner rs (p - suc (length r.right))))

-- the place where a rule begins
unfoldable pub first_place_lem : Grammar → ℕ → ℕ
first_place_lem [] k = 0
first_place_lem (r ∷ rs) zero = 0
first_place_lem (r ∷ rs) (suc k) = suc (length r.right) + first_place_lem rs k

-- the byte of the symbol that comes next, or 64 where none does
unfoldable pub next_code : List Sym → ℕ
next_code [] = 64
next_code (x ∷ β) = sym_spelled x

-- p is a place of rule r before β
pub record At (g : Grammar) (p r : ℕ) (β : List Sym) : Type 0 where
  pub rests : rest g p ≡ β
  pub owned : owner g p ≡ r
  pub within : p < places g

-- a place has a rule, and what of it is done
pub record Parts (g : Grammar) (p : ℕ) : Type 0 where
  pub done : List Sym
  pub whole : (rule g (owner g p)).right ≡ done ++ rest g p
  pub number : p ≡ first_place_lem g (owner g p) + length done
  pub owner_within : owner g p < length g
