-- A text that is told, rule by rule: what the memory holds between two of them, and how the command goes to its end.
use Rattle.std.proofs.Common.{◌≡◌, ℕ, suc, ◌+◌, ◌*◌, ◌≤◌, Bool, true, false, not, eqb, List, [], ◌∷◌, ◌++◌, length, sym, refl, ap, ◌∙◌, subst, ap₂, append_assoc, arith, length-set}
use mathlib.Core.Bool.{false≢true}
use Rattle.std.proofs.lemmas.Bool.{and_parts}
use Rattle.words.specs.Packed.{unpacked, stacked}
use Rattle.words.proofs.PackedLaws.{length_unpacked}
use Rattle.words.proofs.Regions.{length_region}
use Rattle.grammar.specs.Grammar.{pick, every, each, Grammar}
use Rattle.grammar.proofs.Sizes.{Sizes}
use Rattle.parser.specs.Drive.{Config, config, items_of, ends, advance_of, start_config}
use Rattle.parser.specs.DriveStatements.{Kept, Tells}
use Rattle.parser.proofs.Kept.{start_kept}
use Rattle.reader.specs.Promise.{Event, next, shows, done, ran, runs, one_act}
use Rattle.reader.specs.Memory.{Layout, Apart, phase_in, height_in, taken_in, text_in, with_text, with_phase, stack_in, config_in, with_config, cleared, loaded}
use Rattle.reader.specs.Machine.{kept, tells, tells_with, on_ended, goes_on, answered, event_fits, stepped, machine}
use Rattle.reader.proofs.MemoryLaws.{loaded_set}
use Rattle.reader.proofs.Steps.{stepped_fits}
use Rattle.reader.proofs.PackedBytes.{a_byte, bytes_unpacked, unpacked_packed}
use Rattle.reader.proofs.Advancing.{Sized, advance_sized}
use Rattle.reader.proofs.TextLaws.{config_length, config_phase, config_height, config_taken, config_stack, config_text, config_loaded}
use Rattle.reader.proofs.TextLaws.{text_length, text_phase, text_height, text_taken, text_text, text_stack, text_loaded}
use Rattle.reader.proofs.TextLaws.{stack_within, cleared_length, cleared_loaded, cleared_cells}

-- the memory is telling ts, at the configuration c
pub record Showing (l : Layout) (g : Grammar) (ts m : List ℕ) (c : Config) : Type 0 where
  pub long : length m ≡ l.words
  pub phase : phase_in m ≡ 1
  pub grammar : loaded m ≡ g ∷ []
  pub text : text_in m ≡ ts
  pub cells : unpacked (stack_in l m) ≡ c.cells
  pub height : height_in m ≡ c.height
  pub taken : taken_in m ≡ c.taken
  pub items : Kept g c

-- how a command went that was told to its end: rows shown, then done, and the grammar is as it was
pub record Shown (l : Layout) (g : Grammar) (m : List ℕ) (ev : Event) (before rows : List (List ℕ)) : Type 0 where
  pub steps : ℕ
  pub memory : List ℕ
  pub went : runs (suc steps) (machine l) m ev before ≡ ran memory (before ++ rows) 0
  pub long : length memory ≡ l.words
  pub grammar : loaded memory ≡ g ∷ []

not_true : (b : Bool) → not b ≡ true → b ≡ false
not_true true h = absurd (false≢true h)
not_true false h = refl

module _ (l : Layout) (apart : Apart l) (g : Grammar) (fits : Sizes g) (ts : List ℕ) where
  config_is : (m : List ℕ) (c : Config) → Showing l g ts m c → config_in l g m ≡ c
  config_is m c s = same (unpacked (stack_in l m)) (height_in m) (taken_in m) s.cells s.height s.taken
    where
      same : (cs : List ℕ) (h k : ℕ) → cs ≡ c.cells → h ≡ c.height → k ≡ c.taken → config cs h k (items_of g (stacked h cs)) ≡ c
      same cs h k a b d = rw (a, b, d) (λ i. record { cells = c.cells; height = c.height; taken = c.taken; items = sym s.items i })

  sized : (m : List ℕ) (c : Config) → Showing l g ts m c → Sized (8 * l.stack) (c.taken + length ts) c
  sized m c s =
      let n : length (stack_in l m) ≡ l.stack = length_region (l.work + l.fuel) l.stack m (stack_within l apart m s.long) in
      let b : length (unpacked (stack_in l m)) ≡ 8 * l.stack = length_unpacked (stack_in l m) ∙ ap (λ k. 8 * k) n in
      record {
        long = sym (ap length s.cells) ∙ b;
        bytes = subst (λ cs. every a_byte cs ≡ true) s.cells (bytes_unpacked (stack_in l m));
        few = omega arith;
      }

  pub goes_tells : (m : List ℕ) (c : Config) → Showing l g ts m c → stepped l m next ≡ tells l m
  unfolding answered goes_on event_fits
  goes_tells m c s = stepped_fits l m next s.long refl ∙ rw s.phase

  -- one rule more
  module _ (m : List ℕ) (c d : Config) (r : ℕ) (s : Showing l g ts m c) (e : advance_of g ts c ≡ ends r d) where
    after : Sized (8 * l.stack) (c.taken + length ts) d
    after = (advance_sized g fits ts (8 * l.stack) (c.taken + length ts) (omega arith) c d r (sized m c s) e).sized

    tells_rule : tells l m ≡ kept (with_config l (pick (eqb r 0) 2 1) d m) (shows (r ∷ []))
    unfolding tells_with on_ended
    tells_rule =
        let a : advance_of g (text_in m) (config_in l g m) ≡ ends r d = ap₂ (λ u x. advance_of g u x) s.text (config_is m c s) ∙ e in
        rw (s.grammar, a)

    goes_rule : stepped l m next ≡ kept (with_config l (pick (eqb r 0) 2 1) d m) (shows (r ∷ []))
    goes_rule = goes_tells m c s ∙ tells_rule

    on_next : Kept g d → Showing l g ts (with_config l 1 d m) d
    on_next k =
        let z = after in
        record {
          long = config_length l apart m s.long 1 d z.long z.bytes ∙ s.long;
          phase = config_phase l apart m s.long 1 d z.long z.bytes;
          grammar = config_loaded l apart m s.long 1 d z.long z.bytes ∙ s.grammar;
          text = config_text l apart m s.long 1 d z.long z.bytes ∙ s.text;
          cells = ap unpacked (config_stack l apart m s.long 1 d z.long z.bytes) ∙ unpacked_packed d.cells l.stack z.long z.bytes;
          height = config_height l apart m s.long 1 d z.long z.bytes;
          taken = config_taken l apart m s.long 1 d z.long z.bytes;
          items = k;
        }

  -- all was told
  told_all : (m : List ℕ) → length m ≡ l.words → phase_in m ≡ 2 → stepped l m next ≡ kept (with_phase 0 m) done
  unfolding answered goes_on event_fits
  told_all m long e = stepped_fits l m next long refl ∙ rw e

  last_rule : (m : List ℕ) (c d : Config) (before : List (List ℕ)) → Showing l g ts m c → advance_of g ts c ≡ ends 0 d → Shown l g m next before ((0 ∷ []) ∷ [])
  unfolding runs one_act machine
  last_rule m c d before s e =
      let z = after m c d 0 s e in
      let m₁ : List ℕ = with_config l 2 d m in
      let n : length m₁ ≡ l.words = config_length l apart m s.long 2 d z.long z.bytes ∙ s.long in
      let p : phase_in m₁ ≡ 2 = config_phase l apart m s.long 2 d z.long z.bytes in
      let h : loaded m₁ ≡ g ∷ [] = config_loaded l apart m s.long 2 d z.long z.bytes ∙ s.grammar in
      record {
        steps = 1;
        memory = with_phase 0 m₁;
        went = rw (goes_rule m c d 0 s e) (rw (told_all m₁ n p));
        long = length-set m₁ 258 0 ∙ n;
        grammar = loaded_set 258 0 m₁ (omega arith) ∙ h;
      }

  more : (m : List ℕ) (c d : Config) (q : ℕ) (before rows : List (List ℕ)) → Showing l g ts m c → advance_of g ts c ≡ ends q d → eqb q 0 ≡ false →
      Shown l g (with_config l 1 d m) next (before ++ (q ∷ []) ∷ []) rows → Shown l g m next before ((q ∷ []) ∷ rows)
  unfolding runs one_act machine
  more m c d q before rows s e f x =
      let a : stepped l m next ≡ kept (with_config l 1 d m) (shows (q ∷ [])) =
      goes_rule m c d q s e ∙ ap (λ b. kept (with_config l (pick b 2 1) d m) (shows (q ∷ []))) f in
      record {
        steps = suc x.steps;
        memory = x.memory;
        went = rw a (x.went ∙ ap (λ (r : List (List ℕ)). ran x.memory r 0) (append_assoc before ((q ∷ []) ∷ []) rows));
        long = x.long;
        grammar = x.grammar;
      }

  pub shows_rules : (qs m : List ℕ) (c : Config) (before : List (List ℕ)) → Showing l g ts m c → every (λ r. not (eqb r 0)) qs ≡ true →
      Tells g ts c (qs ++ 0 ∷ []) → Shown l g m next before (each (λ r. r ∷ []) (qs ++ 0 ∷ []))
  unfolding Tells each every
  shows_rules [] m c before s n (d, e, k, t) = last_rule m c d before s e
  shows_rules (q ∷ qs) m c before s n (d, e, k, t) =
      let p = and_parts (not (eqb q 0)) (every (λ r. not (eqb r 0)) qs) n in
      let f : eqb q 0 ≡ false = not_true (eqb q 0) p.0 in
      more m c d q before (each (λ r. r ∷ []) (qs ++ 0 ∷ [])) s e f
      (shows_rules qs (with_config l 1 d m) d (before ++ (q ∷ []) ∷ []) (on_next m c d q s e k) p.1 t)

  -- at the beginning
  pub starts_showing : (m : List ℕ) → length m ≡ l.words → loaded m ≡ g ∷ [] → length ts ≤ 4096 → every a_byte ts ≡ true →
      Showing l g ts (with_text ts (cleared l.work (l.fuel + l.stack) m)) (start_config g (8 * l.stack))
  unfolding start_config
  starts_showing m long h short bytes =
      let m₁ : List ℕ = cleared l.work (l.fuel + l.stack) m in
      let n : length m₁ ≡ l.words = cleared_length l apart m long ∙ long in
      record {
        long = text_length l apart m₁ n ts short bytes ∙ n;
        phase = text_phase l apart m₁ n ts short bytes;
        grammar = text_loaded l apart m₁ n ts short bytes ∙ cleared_loaded l apart m long ∙ h;
        text = text_text l apart m₁ n ts short bytes;
        cells = ap unpacked (text_stack l apart m₁ n ts short bytes) ∙ cleared_cells l apart m long;
        height = text_height l apart m₁ n ts short bytes;
        taken = text_taken l apart m₁ n ts short bytes;
        items = start_kept g (8 * l.stack);
      }
