-- Item sets: a word for each place, a bit in it for each lookahead. Start, closure, goto, and the set of a stack. Assumes nothing: these are definitions.
use Rattle.std.specs.Prelude.{◌≡◌, ℕ, suc, ◌^◌, ◌<◌, ◌≤◌, Bool, true, false, not, ◌&&◌, List, [], ◌∷◌, length, replicate, ◌==◌, bit_or, nat_lt, slice_index, slice_set}
use Rattle.words.specs.Bits.{has_bit}
use Rattle.words.specs.Iter.{iter, counted}
use Rattle.words.specs.Rows.{or_at}
use Rattle.grammar.specs.Grammar.{pick, none_of, Sym, sign, name, Grammar, rule}
use Rattle.grammar.specs.Spelling.{sym_spelled}
use Rattle.grammar.specs.Places.{places, rest, owner, first_place_lem, next_code}
use Rattle.grammar.specs.Rows.{begins_with}
use Rattle.grammar.specs.Analysis.{behind, passes}

abbrev pub no_items : List ℕ
no_items = replicate 192 0

-- 192 words of 25 bits, and nothing past the places
pub record IsItemSet (g : Grammar) (s : List ℕ) : Type 0 where
  pub long : length s ≡ 192
  pub fits : (p : ℕ) → slice_index s p < 2 ^ 25
  pub past : (p : ℕ) → places g ≤ p → slice_index s p ≡ 0

-- CLOSURE. What a rule begun at place p has ahead, where w is what stands at p: what can begin behind the name, and w if that can vanish
abbrev pub begun_ahead : Grammar → ℕ → ℕ → ℕ
begun_ahead g p w = pick (w == 0) 0 (bit_or (behind g p) (pick (passes g p) w 0))

-- rule k is begun with m ahead, if it is for the name that is next at place p
abbrev pub begin_rule : Grammar → ℕ → ℕ → ℕ → List ℕ → List ℕ
begin_rule g p m k u = pick (begins_with (rule g k).left (rest g p)) (or_at u (first_place_lem g k) m) u

-- every rule of the name that is next at place p is begun
abbrev pub close_place : Grammar → ℕ → List ℕ → List ℕ
close_place g p s = counted (length g) (begin_rule g p (begun_ahead g p (slice_index s p))) s

abbrev pub close_round_lem : Grammar → List ℕ → List ℕ
close_round_lem g s = counted (places g) (close_place g) s

unfoldable pub closure : Grammar → List ℕ → List ℕ
closure g s = iter 12288 (close_round_lem g) s

-- GOTO over the symbol of the code c: its places one on, and closed
abbrev pub advance_place_lem : Grammar → ℕ → List ℕ → ℕ → List ℕ → List ℕ
advance_place_lem g c s p u = pick (next_code (rest g p) == c) (slice_set u (suc p) (slice_index s p)) u

unfoldable pub advanced_set : Grammar → ℕ → List ℕ → List ℕ
advanced_set g c s = counted (places g) (advance_place_lem g c s) no_items

unfoldable pub goto : Grammar → ℕ → List ℕ → List ℕ
goto g c s = closure g (advanced_set g c s)

-- the first rule at its first place, before the end
unfoldable pub start_set : Grammar → List ℕ
start_set g = closure g (or_at no_items 0 (2 ^ 24))

-- THE SET OF A STACK, top first. On a stack lie symbols that fit, and the beginning's name
unfoldable pub stackable : Sym → Bool
stackable (sign n) = nat_lt n 24
stackable (name n) = nat_lt n 32

unfoldable pub set_of : Grammar → List Sym → List ℕ
set_of g [] = start_set g
set_of g (x ∷ γ) = goto g (sym_spelled x) (set_of g γ)

-- ACTIONS before the sign t: the rules of the complete places that have it ahead, the first place first; and whether a place with something ahead has it next
abbrev pub reduce_place : Grammar → List ℕ → ℕ → ℕ → List ℕ → List ℕ
reduce_place g s t p found = pick (none_of found && (next_code (rest g p) == 64 && has_bit t (slice_index s p))) (owner g p ∷ []) found

unfoldable pub reduce_at : Grammar → List ℕ → ℕ → List ℕ
reduce_at g s t = counted (places g) (reduce_place g s t) []

abbrev pub shift_place : Grammar → List ℕ → ℕ → ℕ → Bool → Bool
shift_place g s t p found = pick (nat_lt t 24 && (next_code (rest g p) == t && not (slice_index s p == 0))) true found

unfoldable pub shift_at : Grammar → List ℕ → ℕ → Bool
shift_at g s t = counted (places g) (shift_place g s t) false
