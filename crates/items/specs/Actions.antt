-- The action of an item set before a sign, and where there is one. Assumes nothing: these are definitions.
use Rattle.std.specs.Prelude.{ℕ, Bool, true, false, not, ◌&&◌, ◌||◌, List, [], ◌∷◌, Some, None, Option, ◌==◌, nat_lt, slice_index}
use Rattle.words.specs.Bits.{has_bit}
use Rattle.grammar.specs.Grammar.{none_of, Grammar}
use Rattle.grammar.specs.Places.{rest, next_code}
use Rattle.items.specs.Sets.{reduce_at, shift_at}
use Rattle.items.specs.declared.sets.Action.{Action}
use Rattle.items.specs.declared.sets.Action.TheVariants.{Reduce, Shift}

-- at one place: it is complete and has the sign t ahead; it has the sign t next, and something ahead
abbrev pub reduces_place : Grammar → List ℕ → ℕ → ℕ → Bool
reduces_place g s t p = next_code (rest g p) == 64 && has_bit t (slice_index s p)

abbrev pub shifts_place : Grammar → List ℕ → ℕ → ℕ → Bool
shifts_place g s t p = nat_lt t 24 && (next_code (rest g p) == t && not (slice_index s p == 0))

-- the first, if there is one
unfoldable pub first_rule_lem : List ℕ → Option ℕ
first_rule_lem [] = None
first_rule_lem (r ∷ rs) = Some r

-- by the rules that may be reduced, and whether the sign may be shifted
unfoldable pub action_of : List ℕ → Bool → Option Action
action_of (r ∷ rs) b = Some (Reduce r)
action_of [] true = Some Shift
action_of [] false = None

-- whether there is an action before the sign t
abbrev pub acts_at : Grammar → List ℕ → ℕ → Bool
acts_at g s t = not (none_of (reduce_at g s t)) || shift_at g s t
