-- The smallest grammar: its one rule is the sign 0. How many item sets it has, and its table. Assumes nothing: these are definitions.
use Rattle.std.specs.Prelude.{ℕ, true, false, List, [], ◌∷◌, ◌++◌, replicate}
use Rattle.grammar.specs.Grammar.{sign, Grammar}
use Rattle.tables.specs.Sets.{Sets}
use Rattle.tables.specs.ByTable.{Goes}

abbrev pub smallest : Grammar
smallest = record { left = 0; right = sign 0 ∷ [] } ∷ []

-- in set 0 the sign 0 leads to set 1; in set 1 the rule is reduced at the end
abbrev pub smallest_table : List ℕ
smallest_table = 66 ∷ replicate 55 0 ++ (replicate 24 0 ++ 1 ∷ replicate 31 0)

-- It has two sets; by its table its text is read in three steps, and of the sign 0 twice the second is wrong.
unfoldable pub SmallestSo : Type 0
SmallestSo =
    Sets smallest 2 × Goes smallest smallest_table (0 ∷ []) (0 ∷ []) 3 (0 ∷ []) true 0 × Goes smallest smallest_table (0 ∷ []) (0 ∷ 0 ∷ []) 2 [] false 1
