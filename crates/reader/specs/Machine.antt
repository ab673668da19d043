-- The machine: its answer to each event, and what its memory holds then. Assumes nothing: these are definitions.
use Rattle.std.specs.Prelude.{ℕ, ◌+◌, ◌*◌, Bool, true, ◌&&◌, List, [], ◌∷◌, length, replicate, ◌==◌, nat_le, nat_lt}
use Rattle.grammar.specs.Grammar.{pick, every, Grammar, Clash}
use Rattle.grammar.specs.Spelling.{grammar_spelled}
use Rattle.grammar.specs.Analysis.{useless}
use Rattle.conflicts.specs.Pairs.{clash_of}
use Rattle.parser.specs.Drive.{Ending, accepted, wrong, gave_out, check_of, Following, followed_by, wrong_before, unknown, next_of, Advanced, ends, none, advance_of}
use Rattle.reader.specs.House.{Command, load, read_text, what_next, Loaded}
use Rattle.reader.specs.Decode.{decode}
use Rattle.reader.specs.Promise.{Engine, Event, said, next, Act, shows, done, refused, Step}
use Rattle.reader.specs.Memory.{Layout, moves_of, phase_in, with_phase, cleared, with_spelling, text_in, with_text, config_in, with_config, loaded}

abbrev pub kept : List ℕ → Act → Step
kept m a = record { memory = m; act = a }

-- a row is shown, and what it is refused with is said when it is told to go on: the phase is that number
abbrev pub refuses : List ℕ → ℕ → List ℕ → Step
refuses m k row = kept (with_phase k m) (shows row)

-- LOADING: a name of no use is shown first; then a clash; else it is the grammar from then on
-- (m₁ is the memory with the pairs' words set to 0: these are at work when a clash is looked for)
unfoldable pub on_clash : List ℕ → Grammar → List Clash → Step
on_clash m₁ g (c ∷ cs) = refuses m₁ 5 (c.due ∷ c.other ∷ c.ahead ∷ [])
on_clash m₁ g [] = kept (with_phase 0 (with_spelling (grammar_spelled g) m₁)) done

unfoldable pub on_useless : List ℕ → List ℕ → Grammar → List ℕ → Step
on_useless m m₁ g (n ∷ ns) = refuses m 6 (n ∷ [])
on_useless m m₁ g [] = on_clash m₁ g (clash_of g)

abbrev pub loads : (pairs size : ℕ) → List ℕ → Grammar → Step
loads pairs size m g = on_useless m (cleared pairs size m) g (useless g)

-- TELLING a text that is accepted: on to the next rule that ends, which is shown; rule 0 is the last
unfoldable pub on_ended : Layout → List ℕ → Advanced → Step
on_ended l m (ends r c) = kept (with_config l (pick (r == 0) 2 1) c m) (shows (r ∷ []))
on_ended l m none = kept (with_phase 0 (cleared (l.work + l.fuel) l.stack m)) (refused 4)

unfoldable pub tells_with : Layout → List ℕ → Loaded → Step
tells_with l m [] = kept m (refused 3)
tells_with l m (g ∷ gs) = on_ended l m (advance_of g (text_in m) (config_in l g m))

abbrev pub tells : Layout → List ℕ → Step
tells l m = tells_with l m (loaded m)

-- READING: the text is run through silently, and told if it is accepted; else the first wrong place is shown
-- (m₁ is the memory with the countdown and the stack set to 0)
unfoldable pub on_ending : Layout → List ℕ → List ℕ → Ending → Step
on_ending l m₁ ts accepted = tells l (with_text ts m₁)
on_ending l m₁ ts (wrong p) = refuses m₁ 4 (p ∷ [])
on_ending l m₁ ts gave_out = kept m₁ (refused 4)

unfoldable pub reads_with : Layout → List ℕ → List ℕ → Loaded → Step
reads_with l m ts [] = kept m (refused 3)
reads_with l m ts (g ∷ gs) = on_ending l (cleared l.work (l.fuel + l.stack) m) ts (check_of g ts (8 * l.stack) (moves_of l.fuel))

abbrev pub reads : Layout → List ℕ → List ℕ → Step
reads l m ts = reads_with l m ts (loaded m)

-- WHAT MAY COME NEXT: the text is run through silently, right behind its last sign; the signs that may come are shown, or the first wrong place
unfoldable pub on_following : List ℕ → Following → Step
on_following m₁ (followed_by ks) = kept (with_phase 2 m₁) (shows ks)
on_following m₁ (wrong_before p) = refuses m₁ 4 (p ∷ [])
on_following m₁ unknown = kept m₁ (refused 4)

unfoldable pub expects_with : Layout → List ℕ → List ℕ → Loaded → Step
expects_with l m ts [] = kept m (refused 3)
expects_with l m ts (g ∷ gs) = on_following (cleared l.work (l.fuel + l.stack) m) (next_of g ts (8 * l.stack) (moves_of l.fuel))

abbrev pub expects : Layout → List ℕ → List ℕ → Step
expects l m ts = expects_with l m ts (loaded m)

unfoldable pub commanded : Layout → List ℕ → List Command → Step
commanded l m [] = kept m (refused 1)
commanded l m (load g ∷ cs) = loads l.pairs l.pair_words m g
commanded l m (read_text ts ∷ cs) = reads l m ts
commanded l m (what_next ts ∷ cs) = kept m (refused 2)

-- GOING ON, by the phase: 1, a text is told; 2, all of it was told; 4 to 6, what was shown is refused by this number
abbrev pub a_refusal : ℕ → Bool
a_refusal k = nat_le 4 k && nat_le k 6

unfoldable pub goes_on : Layout → List ℕ → Step
goes_on l m =
    pick (phase_in m == 1) (tells l m)
    (pick (phase_in m == 2) (kept (with_phase 0 m) done)
    (pick (a_refusal (phase_in m)) (kept (with_phase 0 m) (refused (phase_in m))) (kept m (refused 1))))

unfoldable pub answered : Layout → List ℕ → Event → Step
answered l m (said t) = commanded l m (decode t)
answered l m next = goes_on l m

-- THE GUARD: memory of the machine's own length, and an event of up to 4,097 bytes; else nothing changes
abbrev pub row_fits : List ℕ → Bool
row_fits t = nat_le (length t) 4097 && every (λ b. nat_lt b 256) t

unfoldable pub event_fits : Event → Bool
event_fits (said t) = row_fits t
event_fits next = true

unfoldable pub stepped : Layout → List ℕ → Event → Step
stepped l m ev = pick (length m == l.words && event_fits ev) (answered l m ev) (kept m (refused 1))

unfoldable pub machine : Layout → Engine
machine l = record { start = replicate l.words 0; step = stepped l }

-- one step's sizes: of the memory, which kind of event, of the text, of the lent row
abbrev pub sizes_fit : (memory kind text out : ℕ) → Bool
sizes_fit memory kind text out = memory == 524288 && (nat_le kind 1 && (nat_le text 4097 && nat_le 32 out))
