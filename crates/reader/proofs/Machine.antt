-- The machine keeps its memory, whatever stands there: it never grows, and its numbers stay below 64 bits.
use Rattle.std.proofs.Common.{◌≡◌, ℕ, zero, suc, ◌<◌, ◌≤◌, Bool, true, false, ◌&&◌, eqb, List, [], ◌∷◌, length, replicate, sym, refl, subst, arith}
use lib.ListN.{length-replicate}
use Rattle.std.proofs.lemmas.Bool.{and_parts, eqb-true}
use Rattle.grammar.specs.Grammar.{pick, every, Grammar, Clash}
use Rattle.grammar.specs.Spelling.{grammar_spelled}
use Rattle.grammar.specs.Analysis.{useless}
use Rattle.conflicts.specs.Pairs.{clash_of}
use Rattle.reader.specs.House.{Command, load, read_text, what_next, fits}
use Rattle.reader.specs.Decode.{decode}
use Rattle.reader.specs.Promise.{Event, said, next, refused, Said, Steady, all_small}
use Rattle.reader.specs.Memory.{Layout, Apart, cleared}
use Rattle.reader.specs.Machine.{machine, stepped, answered, commanded, loads, on_useless, on_clash, event_fits, row_fits, kept}
use Rattle.reader.proofs.Decoding.{said_of}
use Rattle.reader.proofs.Said.{Spelling, spelling}
use Rattle.reader.proofs.Keeping.{Keeps, keeps_phase, keeps_cleared, keeps_spelled}
use Rattle.reader.proofs.ReadKeeps.{reads_keeps, goes_on_keeps}

every_zero : (n : ℕ) → every (λ m. eqb m 0) (replicate n 0) ≡ true
unfolding every
every_zero zero = refl
every_zero (suc n) = every_zero n

module _ (l : Layout) (apart : Apart l) (few : l.words ≤ 524288) where
  loads_keeps : (m : List ℕ) (g : Grammar) → length m ≡ l.words → Spelling g → Keeps m (loads l.pairs l.pair_words m g).memory
  unfolding on_useless on_clash
  loads_keeps m g e s = go (useless g)
    where
      room : 258 < length m
      room = omega (arith, apart.work_behind, apart.pairs_behind, apart.within)

      free : Keeps m (cleared l.pairs l.pair_words m)
      free = keeps_cleared l.pairs l.pair_words m (omega (arith, apart.within))

      clash : (cs : List Clash) → Keeps m (on_clash (cleared l.pairs l.pair_words m) g cs).memory
      clash [] = keeps_phase 0 m _ (omega arith) (keeps_spelled (grammar_spelled g) m _ room s.short s.bytes free)
      clash (c ∷ cs) = keeps_phase 5 m _ (omega arith) free

      go : (ns : List ℕ) → Keeps m (on_useless m (cleared l.pairs l.pair_words m) g ns).memory
      go [] = clash (clash_of g)
      go (n ∷ ns) = keeps_phase 6 m m (omega arith) (refl, λ x. x)

  commanded_keeps : (m t : List ℕ) (cs : List Command) → length m ≡ l.words → row_fits t ≡ true → decode t ≡ cs → Keeps m (commanded l m cs).memory
  unfolding commanded Said fits
  commanded_keeps m t [] e r d = (refl, λ x. x)
  commanded_keeps m t (load g ∷ cs) e r d = loads_keeps m g e (spelling t g r (said_of t (load g) cs d).0)
  commanded_keeps m t (read_text ts ∷ cs) e r d = reads_keeps l apart few m ts e (said_of t (read_text ts) cs d).0.1
  commanded_keeps m t (what_next ts ∷ cs) e r d = (refl, λ x. x)

  answered_keeps : (m : List ℕ) (ev : Event) → length m ≡ l.words → event_fits ev ≡ true → Keeps m (answered l m ev).memory
  unfolding answered event_fits
  answered_keeps m (said t) e f = commanded_keeps m t (decode t) e f refl
  answered_keeps m next e f = goes_on_keeps l apart few m e

  stepped_keeps : (m : List ℕ) (ev : Event) → Keeps m (stepped l m ev).memory
  unfolding stepped
  stepped_keeps m ev = go (eqb (length m) l.words && event_fits ev) refl
    where
      go : (b : Bool) → (eqb (length m) l.words && event_fits ev) ≡ b → Keeps m (pick b (answered l m ev) (kept m (refused 1))).memory
      go true h =
          let p = and_parts (eqb (length m) l.words) (event_fits ev) h in
          answered_keeps m ev (eqb-true (length m) l.words p.0) p.1
      go false h = (refl, λ x. x)

  pub steady : Steady (machine l)
  unfolding Steady machine all_small
  steady = (subst (λ (n : ℕ). n ≤ 524288) (sym (length-replicate l.words 0)) few, every_zero l.words, stepped_keeps)
