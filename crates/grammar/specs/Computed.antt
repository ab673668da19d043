-- What the analyses compute, in the subject's own words. Each statement is a type whose proof is owed. Assumes nothing.
use Rattle.std.specs.Prelude.{◌≡◌, ℕ, true, ◌↔◌, List, [], ◌∷◌}
use Rattle.words.specs.Bits.{has_bit}
use Rattle.grammar.specs.Grammar.{every, Sym, Grammar, a_grammar, sym_fits, in_grammar, Useful, AllUseful}
use Rattle.grammar.specs.First.{Vanishes, Opens}
use Rattle.grammar.specs.Rows.{vanishing, opening}
use Rattle.grammar.specs.Analysis.{nullable, firsts, useless}

-- A row vanishes by the computed marks if and only if it is nullable.
unfoldable pub NullableComputed : Type 0
NullableComputed =
    (g : Grammar) (β : List Sym) → a_grammar g ≡ true → every sym_fits β ≡ true → (vanishing (nullable g) β ≡ true) ↔ Vanishes g β

-- A sign is in the computed mask of a row if and only if it is in the row's FIRST set.
unfoldable pub FirstComputed : Type 0
FirstComputed =
    (g : Grammar) (β : List Sym) (u : ℕ) → a_grammar g ≡ true → every sym_fits β ≡ true →
    (has_bit u (opening (nullable g) (firsts g) β) ≡ true) ↔ Opens g β u

-- If no name is found useless, every name is of use; and a name that is found is a name of the grammar, of no use.
unfoldable pub UselessFound : Type 0
UselessFound =
    (g : Grammar) → a_grammar g ≡ true →
    (useless g ≡ [] → AllUseful g) × ((n : ℕ) (ns : List ℕ) → useless g ≡ n ∷ ns → (in_grammar g n ≡ true) × (Useful g n → ⊥))
