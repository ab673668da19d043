-- The analyses of a grammar, each by rounds over its rules until nothing changes: nullable names, FIRST, productive and reachable names.
-- Assumes nothing: these are definitions.
use Rattle.std.specs.Prelude.{ℕ, Bool, List, [], ◌∷◌, length, drop, replicate, ◌==◌, bit_or}
use Rattle.std.specs.Int.Count.{count_trailing_zeros}
use Rattle.words.specs.Bits.{has_bit, bit_of, without_bits}
use Rattle.words.specs.Iter.{iter, counted}
use Rattle.words.specs.Rows.{or_at}
use Rattle.grammar.specs.Grammar.{pick, Sym, Grammar, rule}
use Rattle.grammar.specs.Rows.{vanishing, producing, opening, named}
use Rattle.grammar.specs.Places.{rest}

-- MARKS OF NAMES, a bit each in one word: a rule marks its name if its row passes the test by the marks so far
abbrev pub mark_rule_lem : (ℕ → List Sym → Bool) → Grammar → ℕ → ℕ → ℕ
mark_rule_lem test g k M = pick (test M (rule g k).right) (bit_or M (bit_of (rule g k).left)) M

abbrev pub mark_round_lem : (ℕ → List Sym → Bool) → Grammar → ℕ → ℕ
mark_round_lem test g M = counted (length g) (mark_rule_lem test g) M

-- the names that can vanish
unfoldable pub nullable : Grammar → ℕ
nullable g = iter 64 (mark_round_lem vanishing g) 0

-- the names of which signs come
unfoldable pub productive : Grammar → ℕ
productive g = iter 64 (mark_round_lem producing g) 0

-- the names that are reached from the beginning: a rule of a name that is reached reaches the names of its row
abbrev pub reach_rule : Grammar → ℕ → ℕ → ℕ
reach_rule g k M = pick (has_bit (rule g k).left M) (bit_or M (named (rule g k).right)) M

unfoldable pub reachable : Grammar → ℕ
reachable g = iter 64 (λ M. counted (length g) (reach_rule g) M) 1

-- the names that stand in the grammar
abbrev pub name_rule : Grammar → ℕ → ℕ → ℕ
name_rule g k M = bit_or M (bit_or (bit_of (rule g k).left) (named (rule g k).right))

unfoldable pub names_in : Grammar → ℕ
names_in g = counted (length g) (name_rule g) 0

-- FIRST: for each name the mask of the signs that it can begin with
abbrev pub first_rule_lem : Grammar → ℕ → ℕ → List ℕ → List ℕ
first_rule_lem g N k F = or_at F (rule g k).left (opening N F (rule g k).right)

abbrev pub first_round : Grammar → ℕ → List ℕ → List ℕ
first_round g N F = counted (length g) (first_rule_lem g N) F

unfoldable pub firsts : Grammar → List ℕ
firsts g = iter 2048 (first_round g (nullable g)) (replicate 32 0)

-- at a place, of what stands behind its next symbol: the signs that it can begin with, and whether it can vanish
unfoldable pub behind : Grammar → ℕ → ℕ
behind g p = opening (nullable g) (firsts g) (drop 1 (rest g p))

unfoldable pub passes : Grammar → ℕ → Bool
passes g p = vanishing (nullable g) (drop 1 (rest g p))

-- the names of no use: of which nothing comes; if there are none, those that are not reached
unfoldable pub unproductive : Grammar → ℕ
unproductive g = without_bits (names_in g) (productive g)

unfoldable pub unreachable : Grammar → ℕ
unreachable g = without_bits (names_in g) (reachable g)

-- the lowest of them, or none
abbrev pub lowest : ℕ → ℕ → List ℕ
lowest first second = pick (first == 0) (pick (second == 0) [] (count_trailing_zeros 64 second ∷ [])) (count_trailing_zeros 64 first ∷ [])

unfoldable pub useless : Grammar → List ℕ
useless g = lowest (unproductive g) (unreachable g)
