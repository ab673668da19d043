-- What is so of the conflicts of every grammar. Each statement is a type whose proof is owed. Assumes nothing.
use Rattle.std.specs.Prelude.{◌≡◌, ℕ, true, false, ◌↔◌, List, [], ◌∷◌, nat_eq}
use Rattle.grammar.specs.Grammar.{Sym, sign, Grammar, a_grammar, AllUseful, Clash, Clashes, Enough}
use Rattle.items.specs.Items.{Valid}
use Rattle.conflicts.specs.Conflicts.{NoConflict, Both}
use Rattle.conflicts.specs.Pairs.{clash_of}

-- Pairs are the items that are valid behind one stack.
unfoldable pub PairsShareAStack : Type 0
PairsShareAStack =
    (g : Grammar) (r : ℕ) (β : List Sym) (t q : ℕ) (α : List Sym) (u : ℕ) →
    (Both g r β t q α u → (γ : List Sym) × Valid g γ r β t × Valid g γ q α u)
    × ((γ : List Sym) → Valid g γ r β t → Valid g γ q α u → Both g r β t q α u)

-- A CONFLICT, by a pair of items: another rule is complete with the same lookahead, or an item has that lookahead next; 64 stands for the shift
pub data Conflict (g : Grammar) (c : Clash) : Type 0 where
  by_reduce : nat_eq c.other c.due ≡ false → Both g c.due [] c.ahead c.other [] c.ahead → Conflict g c
  by_shift : {q : ℕ} {β : List Sym} {u : ℕ} → c.other ≡ 64 → Both g c.due [] c.ahead q (sign c.ahead ∷ β) u → Conflict g c

-- What clashes in two forms is a conflict of items; and if every name is of use, every conflict of items is such a clash.
unfoldable pub ClashesAreConflicts : Type 0
ClashesAreConflicts = (g : Grammar) (c : Clash) → a_grammar g ≡ true → (Clashes g c → Conflict g c) × (AllUseful g → Conflict g c → Clashes g c)

-- Without conflicts of items one look ahead is enough; and if every name is of use, then only so.
unfoldable pub EnoughIsNoConflict : Type 0
EnoughIsNoConflict = (g : Grammar) → a_grammar g ≡ true → (NoConflict g → Enough g) × (AllUseful g → Enough g → NoConflict g)

-- If every name is of use, a clash is found among the pairs just where one look ahead is not enough; and what is found is a clash.
unfoldable pub ClashIsFound : Type 0
ClashIsFound =
    (g : Grammar) → a_grammar g ≡ true → AllUseful g →
    (clash_of g ≡ [] ↔ Enough g) × ((c : Clash) (cs : List Clash) → clash_of g ≡ c ∷ cs → Clashes g c)
