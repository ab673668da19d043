-- What the answers of the code say, in configurations. Assumes nothing: these are definitions.
use Rattle.std.specs.Prelude.{◌≡◌, ℕ, List, replicate, Some, None, Option, Ok, Err, Result, IsErr}
use Rattle.words.specs.Bits.{has_bit}
use Rattle.words.specs.Packed.{unpacked}
use Rattle.items.specs.Sets.{no_items}
use Rattle.parser.specs.declared.check.Unread.{Unread}
use Rattle.parser.specs.declared.check.Unread.TheVariants.{Wrong, GaveOut}
use Rattle.parser.specs.declared.config.State.{State}
use Rattle.parser.specs.declared.config.Step.{Step}
use Rattle.parser.specs.declared.config.Step.TheVariants.{Shifted, Reduced}
use Rattle.parser.specs.declared.config.Halt.{Halt as HaltTold}
use Rattle.parser.specs.declared.config.Halt.TheVariants.{Stuck, Full}
use Rattle.parser.specs.Rows.{passing}
use Rattle.parser.specs.Drive.{Config, config, Moved, shifted, reduced, stuck, full, Halt, arrives, sticks, gives_out, Ending, accepted, wrong, gave_out, Following, followed_by, wrong_before, unknown, Advanced, ends, none}

-- the configuration of the room for a stack and a state
abbrev pub config_of : List ℕ → State → Config
config_of stack s = config (unpacked stack) s.height s.taken s.items.words

-- the move that was told, with the configuration then
unfoldable pub moved_by : Result Step HaltTold → Config → Moved
moved_by (Ok Shifted) d = shifted d
moved_by (Ok (Reduced r)) d = reduced r d
moved_by (Err Stuck) d = stuck
moved_by (Err Full) d = full

-- from c, where the move is m: r is told, and d is left; it is c where no move was told
pub record Told (m : Moved) (c : Config) (r : Result Step HaltTold) (d : Config) : Type 0 where
  pub is : m ≡ moved_by r d
  pub kept : IsErr r → d ≡ c

-- where a run stopped, with the configuration then
unfoldable pub halted : Result Unit HaltTold → Config → Halt
halted (Ok u) c = arrives c
halted (Err Stuck) c = sticks c
halted (Err Full) c = gives_out

-- what was told of how a text goes on: the numbers up to 24 whose bits are set
abbrev pub signs_in : ℕ → List ℕ
signs_in mask = passing (λ t. has_bit t mask) 25 0

unfoldable pub followed : Result ℕ Unread → Following
followed (Ok mask) = followed_by (signs_in mask)
followed (Err (Wrong k)) = wrong_before k
followed (Err GaveOut) = unknown

-- the ending that was told
unfoldable pub ended : Result Unit Unread → Ending
ended (Ok u) = accepted
ended (Err (Wrong k)) = wrong k
ended (Err GaveOut) = gave_out

-- nothing is left of a configuration with room of n words
pub record Cleared (n : ℕ) (stack : List ℕ) (s : State) : Type 0 where
  pub stack_is : stack ≡ replicate n 0
  pub height_is : s.height ≡ 0
  pub taken_is : s.taken ≡ 0
  pub items_are : s.items.words ≡ no_items

-- the rule that was told, with the configuration then
unfoldable pub advanced_by : Option ℕ → Config → Advanced
advanced_by (Some r) d = ends r d
advanced_by None d = none
