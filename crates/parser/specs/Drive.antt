-- The parser that is driven by item sets: one move, a silent run to its end, a run to the end of the text, and the run on to the next rule. Assumes nothing: these
-- are definitions.
use Rattle.std.specs.Prelude.{ℕ, zero, suc, ◌+◌, ◌-◌, ◌&&◌, List, [], ◌∷◌, length, replicate, ◌==◌, nat_le, nat_lt, slice_index, slice_index_or, slice_set}
use Rattle.words.specs.Packed.{stacked}
use Rattle.grammar.specs.Grammar.{pick, Grammar, rule}
use Rattle.items.specs.Sets.{start_set, goto, reduce_at, shift_at}
use Rattle.items.specs.Actions.{acts_at}
use Rattle.parser.specs.Rows.{passing}

-- the item set behind a stack of codes, top first
unfoldable pub items_of : Grammar → List ℕ → List ℕ
items_of g [] = start_set g
items_of g (c ∷ cs) = goto g c (items_of g cs)

-- A CONFIGURATION: the room for the stack, a byte to a symbol, how many of them are in use, how many signs are taken, and the item set behind the stack
pub record Config : Type 0 where
  pub cells : List ℕ
  pub height : ℕ
  pub taken : ℕ
  pub items : List ℕ

abbrev pub config : List ℕ → ℕ → ℕ → List ℕ → Config
config cs h k s = record { cells = cs; height = h; taken = k; items = s }

pub data Moved : Type 0 where
  shifted : Config → Moved
  reduced : ℕ → Config → Moved
  stuck : Moved
  full : Moved

-- the symbol of the code c pushed above so many, with the item set s behind it
abbrev pub pushed : Config → ℕ → ℕ → ℕ → List ℕ → Config
pushed c at code k s = config (slice_set c.cells at code) (suc at) k s

unfoldable pub shift_move : Grammar → Config → ℕ → Moved
shift_move g c t =
    pick (nat_lt c.height (length c.cells))
    (shifted (pushed c c.height t (suc c.taken) (goto g t c.items))) full

-- the item set behind a name that takes the place of n symbols: if there are none it is one goto on, else it is worked out from the bottom
abbrev pub items_after : Grammar → Config → ℕ → ℕ → ℕ → List ℕ
items_after g c n at code = pick (n == 0) (goto g code c.items) (items_of g (stacked (suc at) (slice_set c.cells at code)))

abbrev pub replace_handle : Grammar → Config → ℕ → ℕ → ℕ → ℕ → Moved
replace_handle g c r n at code =
    pick (nat_lt at (length c.cells)) (reduced r (pushed c at code c.taken (items_after g c n at code))) full

unfoldable pub reduce_move : Grammar → Config → ℕ → Moved
reduce_move g c r =
    replace_handle g c r (length (rule g r).right) (c.height - length (rule g r).right) (32 + (rule g r).left)

unfoldable pub on_action : Grammar → Config → ℕ → List ℕ → Moved
on_action g c t (r ∷ rs) = reduce_move g c r
on_action g c t [] = pick (shift_at g c.items t) (shift_move g c t) stuck

-- ONE MOVE, before the text ts: a rule that is complete before the sign ahead is reduced; else that sign is shifted
unfoldable pub moved : Grammar → List ℕ → Config → Moved
moved g ts c = on_action g c (slice_index_or ts c.taken 24) (reduce_at g c.items (slice_index_or ts c.taken 24))

-- A SILENT RUN, of so many moves at most: the text is read, or it is wrong at a place, or the moves or the room gave out
pub data Ending : Type 0 where
  accepted : Ending
  wrong : ℕ → Ending
  gave_out : Ending

-- where there is no move: all is taken and the beginning's name alone stands on the stack; or not
unfoldable pub ending : List ℕ → Config → Ending
ending ts c = pick (c.taken == length ts && (c.height == 1 && slice_index c.cells 0 == 32)) accepted (wrong c.taken)

unfoldable pub on_moved : (Config → Ending) → Ending → Moved → Ending
on_moved go e (shifted d) = go d
on_moved go e (reduced r d) = go d
on_moved go e stuck = e
on_moved go e full = gave_out

unfoldable pub run_for : ℕ → Grammar → List ℕ → Config → Ending
run_for zero g ts c = gave_out
run_for (suc n) g ts c = on_moved (run_for n g ts) (ending ts c) (moved g ts c)

-- from the empty stack, with so much room for symbols and so many moves
unfoldable pub start_config : Grammar → ℕ → Config
start_config g room = config (replicate room 0) 0 0 (start_set g)

unfoldable pub check_of : Grammar → List ℕ → ℕ → ℕ → Ending
check_of g ts room moves = run_for moves g ts (start_config g room)

-- A RUN, of so many moves at most, until so many signs are taken: it comes there; or there is no move before; or the moves or the room gave out
pub data Halt : Type 0 where
  arrives : Config → Halt
  sticks : Config → Halt
  gives_out : Halt

unfoldable pub on_stepped : (Config → Halt) → Config → Moved → Halt
on_stepped go c (shifted d) = go d
on_stepped go c (reduced r d) = go d
on_stepped go c stuck = sticks c
on_stepped go c full = gives_out

unfoldable pub run_to : ℕ → ℕ → Grammar → List ℕ → Config → Halt
run_to zero last g ts c = gives_out
run_to (suc n) last g ts c = pick (nat_le last c.taken) (arrives c) (on_stepped (run_to n last g ts) c (moved g ts c))

-- WHAT MAY COME NEXT: right behind the last sign, before any rule is reduced there, the signs and the end before which there is an action; or the text is
-- wrong at a place before
pub data Following : Type 0 where
  followed_by : List ℕ → Following
  wrong_before : ℕ → Following
  unknown : Following

unfoldable pub following : Grammar → Halt → Following
following g (arrives c) = followed_by (passing (acts_at g c.items) 25 0)
following g (sticks c) = wrong_before c.taken
following g gives_out = unknown

unfoldable pub next_of : Grammar → List ℕ → ℕ → ℕ → Following
next_of g ts room moves = following g (run_to moves (length ts) g ts (start_config g room))

-- ON TO THE NEXT RULE that is reduced: which, and the configuration then
pub data Advanced : Type 0 where
  ends : ℕ → Config → Advanced
  none : Advanced

unfoldable pub on_advanced : (Config → Advanced) → Moved → Advanced
on_advanced go (shifted d) = go d
on_advanced go (reduced r d) = ends r d
on_advanced go stuck = none
on_advanced go full = none

unfoldable pub advance_for : ℕ → Grammar → List ℕ → Config → Advanced
advance_for zero g ts c = none
advance_for (suc n) g ts c = on_advanced (advance_for n g ts) (moved g ts c)

unfoldable pub advance_of : Grammar → List ℕ → Config → Advanced
advance_of g ts c = advance_for (suc (length ts)) g ts c
