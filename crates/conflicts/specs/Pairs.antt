-- Pairs of places that share a stack, in words: for the pair of p and q the word at 192 p + q has bit t if p can have t ahead there, and bit 25 + t if both can.
-- Assumes nothing: these are definitions.
use Rattle.std.specs.Prelude.{ℕ, suc, ◌+◌, ◌*◌, ◌/◌, ◌%◌, ◌^◌, ◌&&◌, List, [], ◌∷◌, length, replicate, ◌==◌, bit_and, bit_or, nat_lt, slice_index}
use Rattle.std.specs.Int.Count.{count_trailing_zeros}
use Rattle.words.specs.Iter.{iter, counted}
use Rattle.words.specs.Rows.{or_at}
use Rattle.grammar.specs.Grammar.{pick, Grammar, rule, Clash}
use Rattle.grammar.specs.Places.{places, rest, owner, first_place_lem, next_code}
use Rattle.grammar.specs.Rows.{begins_with}
use Rattle.grammar.specs.Analysis.{behind, passes}

abbrev pub pair : ℕ → ℕ → ℕ
pair p q = 192 * p + q

-- the two parts of a word: what the first can have ahead, and what both can
abbrev pub own_part : ℕ → ℕ
own_part w = w % 2 ^ 25

abbrev pub both_part : ℕ → ℕ
both_part w = w / 2 ^ 25

abbrev pub word_of : ℕ → ℕ → ℕ
word_of own both = own + both * 2 ^ 25

-- both go over the same symbol
abbrev pub advance_pair : Grammar → ℕ → ℕ → List ℕ → List ℕ
advance_pair g p q w =
    pick (next_code (rest g p) == next_code (rest g q) && nat_lt (next_code (rest g p)) 64)
    (or_at w (pair (suc p) (suc q)) (slice_index w (pair p q))) w

-- a rule begun at p, beside q: from the word v of (p, q) and the word u of (q, p)
abbrev pub begun_own : Grammar → ℕ → ℕ → ℕ
begun_own g p v = bit_or (behind g p) (pick (passes g p) (own_part v) 0)

abbrev pub begun_both_lem : Grammar → ℕ → ℕ → ℕ → ℕ
begun_both_lem g p v u = bit_or (bit_and (behind g p) (own_part u)) (pick (passes g p) (both_part v) 0)

abbrev pub begin_rule : Grammar → ℕ → ℕ → ℕ → ℕ → ℕ → List ℕ → List ℕ
begin_rule g p q v u k w =
    pick (begins_with (rule g k).left (rest g p))
    (or_at (or_at w (pair (first_place_lem g k) q) (word_of (begun_own g p v) (begun_both_lem g p v u)))
    (pair q (first_place_lem g k)) (word_of (own_part u) (begun_both_lem g p v u))) w

abbrev pub close_pair_lem : Grammar → ℕ → ℕ → List ℕ → List ℕ
close_pair_lem g p q w = counted (length g) (begin_rule g p q (slice_index w (pair p q)) (slice_index w (pair q p))) w

-- one pair, if it came about at all
abbrev pub pair_step : Grammar → ℕ → ℕ → List ℕ → List ℕ
pair_step g p q w = pick (slice_index w (pair p q) == 0) w (close_pair_lem g p q (advance_pair g p q w))

abbrev pub pair_round_lem : Grammar → List ℕ → List ℕ
pair_round_lem g w = counted (places g) (λ p u. counted (places g) (pair_step g p) u) w

-- all pairs, from the first place beside itself before the end
unfoldable pub pairs : Grammar → List ℕ
pairs g = iter 2359296 (pair_round_lem g) (or_at (replicate 36864 0) 0 (word_of (2 ^ 24) (2 ^ 24)))

-- A CLASH at p and q: both complete, of two rules, with a common sign ahead; or p complete before the sign that is next at q
abbrev pub clash_mask : Grammar → List ℕ → ℕ → ℕ → ℕ
clash_mask g w p q =
    pick (next_code (rest g p) == 64)
    (pick (next_code (rest g q) == 64)
    (pick (p == q) 0 (both_part (slice_index w (pair p q))))
    (pick (nat_lt (next_code (rest g q)) 24) (bit_and (own_part (slice_index w (pair p q))) (2 ^ next_code (rest g q))) 0))
    0

-- the rule due at p; the other rule, or 64: go on; and the lowest sign ahead
abbrev pub clash_at : Grammar → List ℕ → ℕ → ℕ → List Clash
clash_at g w p q =
    pick (clash_mask g w p q == 0) []
    (record { due = owner g p; other = pick (next_code (rest g q) == 64) (owner g q) 64; ahead = count_trailing_zeros 64 (clash_mask g w p q) } ∷ [])

unfoldable pub earlier : List Clash → List Clash → List Clash
earlier [] later = later
earlier (c ∷ cs) later = c ∷ []

-- the first clash in the order of places, or none
abbrev pub clash_in_row_lem : Grammar → List ℕ → ℕ → List Clash
clash_in_row_lem g w p = counted (places g) (λ q c. earlier c (clash_at g w p q)) []

abbrev pub clash_among_lem : Grammar → List ℕ → List Clash
clash_among_lem g w = counted (places g) (λ p c. earlier c (clash_in_row_lem g w p)) []

unfoldable pub clash_of : Grammar → List Clash
clash_of g = clash_among_lem g (pairs g)
