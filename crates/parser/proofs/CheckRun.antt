-- A silent run is a run until more signs are taken than there are, with its ending read off where it sticks.
use Rattle.std.proofs.Common.{◌≡◌, ℕ, zero, suc, ◌+◌, ◌-◌, ◌≤◌, Bool, true, false, ltb, List, [], ◌∷◌, length, get_or, sym, refl, ap, ◌∙◌, ap₂, arith}
use Rattle.std.proofs.lemmas.Bool.{lt-leb}
use Rattle.grammar.specs.Grammar.{pick, Grammar, rule}
use Rattle.items.specs.Sets.{goto, reduce_at, shift_at}
use Rattle.parser.specs.Drive.{Config, Moved, shifted, reduced, stuck, full, on_action, moved, pushed, shift_move, reduce_move, Ending, gave_out, ending, on_moved, run_for, Halt, arrives, sticks, gives_out, on_stepped, run_to, start_config, check_of}
use Rattle.parser.proofs.Steps.{shift_at_sign, sign_ahead}

-- the ending where a run stops: more signs than there are are never taken
unfoldable pub ending_at : List ℕ → Halt → Ending
ending_at ts (arrives c) = gave_out
ending_at ts (sticks c) = ending ts c
ending_at ts gives_out = gave_out

-- a move leads to where no more than n signs are taken
abbrev Within : ℕ → Moved → Type 0
Within n (shifted d) = d.taken ≤ n
Within n (reduced r d) = d.taken ≤ n
Within n stuck = Unit
Within n full = Unit

with_room : (n : ℕ) (b : Bool) (m : Moved) → Within n m → Within n (pick b m full)
with_room n true m w = w
with_room n false m w = tt

module _ (g : Grammar) (ts : List ℕ) where
  moved_within : (c : Config) → c.taken ≤ length ts → Within (length ts) (moved g ts c)
  unfolding moved on_action shift_move reduce_move
  moved_within c h = go (reduce_at g c.items t)
    where
      t : ℕ
      t = get_or ts c.taken 24

      shifts : (b : Bool) → shift_at g c.items t ≡ b → Within (length ts) (pick b (shift_move g c t) stuck)
      shifts true e =
          with_room (length ts) (ltb c.height (length c.cells)) (shifted (pushed c c.height t (suc c.taken) (goto g t c.items))) (sign_ahead ts c.taken (shift_at_sign g c.items t e))
      shifts false e = tt

      go : (rs : List ℕ) → Within (length ts) (on_action g c t rs)
      go (r ∷ rs) = with_room (length ts) (ltb (c.height - length (rule g r).right) (length c.cells)) _ h
      go [] = shifts (shift_at g c.items t) refl

  pub run_for_to : (n : ℕ) (c : Config) → c.taken ≤ length ts → run_for n g ts c ≡ ending_at ts (run_to n (length ts + 1) g ts c)
  unfolding run_for run_to ending_at on_moved on_stepped
  run_for_to zero c h = refl
  run_for_to (suc n) c h =
      rw (lt-leb (length ts + 1) c.taken (omega arith)) (go (moved g ts c) (moved_within c h) (λ d k. run_for_to n d k))
    where
      go : (m : Moved) → Within (length ts) m → ((d : Config) → d.taken ≤ length ts → run_for n g ts d ≡ ending_at ts (run_to n (length ts + 1) g ts d)) →
          on_moved (run_for n g ts) (ending ts c) m ≡ ending_at ts (on_stepped (run_to n (length ts + 1) g ts) c m)
      go (shifted d) w ih = ih d w
      go (reduced r d) w ih = ih d w
      go stuck w ih = refl
      go full w ih = refl

  -- where a run stops that began from the empty stack
  pub ending_here : (room moves : ℕ) {m : ℕ} {c : Config} {h : Halt} → h ≡ run_to m (length ts + 1) g ts c → m ≡ moves → c ≡ start_config g room →
      ending_at ts h ≡ check_of g ts room moves
  unfolding check_of start_config
  ending_here room moves e em ec =
      ap (ending_at ts) (e ∙ ap₂ (λ k x. run_to k (length ts + 1) g ts x) em ec) ∙ sym (run_for_to moves (start_config g room) (omega arith))
