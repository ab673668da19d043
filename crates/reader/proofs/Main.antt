-- THE MAIN PROMISE: for whatever rows of bytes come, each is answered as it may be.
use Rattle.std.proofs.Common.{◌≡◌, ℕ, ◌*◌, ◌<◌, ◌≤◌, true, ◌&&◌, ltb, leb, List, [], ◌∷◌, length, refl, ap, ◌∙◌, inl, inr, arith, lit<, lit≤}
use lib.ListN.{length-replicate}
use Rattle.std.proofs.lemmas.Bool.{and_from, le-leb, lt-ltb}
use Rattle.parser.specs.DriveStatements.{most_moves}
use Rattle.parser.proofs.MostMoves.{most_moves_below}
use Rattle.reader.specs.House.{Command, load, read_text, what_next, Loaded, core}
use Rattle.reader.specs.Decode.{decode}
use Rattle.reader.specs.Promise.{said, refused, Whole, May, runs, ran, one_act}
use Rattle.reader.specs.Memory.{Layout, Apart, moves_of}
use Rattle.reader.specs.Machine.{machine, answered, commanded, event_fits, row_fits, kept}
use Rattle.reader.specs.Entry.{own, own_layout}
use Rattle.reader.proofs.Decoding.{said_of, none_said}
use Rattle.reader.proofs.MemoryLaws.{loaded_zeros}
use Rattle.reader.proofs.Steps.{runs_step}
use Rattle.reader.specs.Holds.{Holds, nothing_loaded}
use Rattle.reader.proofs.LoadAnswered.{load_answered}
use Rattle.reader.proofs.ReadAnswered.{read_answered}
use Rattle.reader.proofs.Machine.{steady}
use Rattle.reader.proofs.Invariant.{Answered, answered_by, whole_by}

module _ (l : Layout) (apart : Apart l) where
  -- refused at once, with nothing changed
  refused_at_once : (m t : List ℕ) (k : ℕ) → length m ≡ l.words → row_fits t ≡ true → answered l m (said t) ≡ kept m (refused k) → 1 ≤ k → k < 1000 →
      runs 1 (machine l) m (said t) [] ≡ ran m [] k
  unfolding one_act event_fits
  refused_at_once m t k e f s a b =
      let r : (leb 1 k && ltb k 1000) ≡ true = and_from _ _ (le-leb 1 k a) (lt-ltb k 1000 b) in
      runs_step l 0 m (said t) [] e f ∙ rw (s, r)

  pub answers : (m : List ℕ) (old : Loaded) (t : List ℕ) → Holds l m old → row_fits t ≡ true → Answered core (machine l) (Holds l) m old t
  unfolding answered commanded May core
  answers m old t h f = go (decode t) refl
    where
      go : (cs : List Command) → decode t ≡ cs → Answered core (machine l) (Holds l) m old t
      go [] d =
          answered_by core (machine l) (Holds l) m old t 1 m [] 1 old (refused_at_once m t 1 h.long f (rw d) (omega arith) (omega arith))
          (inr (inr (none_said t d, refl, refl, refl))) h
      go (load g ∷ cs) d = load_answered l apart m old t g h f (d ∙ ap (λ (xs : List Command). load g ∷ xs) (said_of t (load g) cs d).1)
      go (read_text ts ∷ cs) d = read_answered l apart m old t ts h f (d ∙ ap (λ (xs : List Command). read_text ts ∷ xs) (said_of t (read_text ts) cs d).1)
      go (what_next ts ∷ cs) d =
          answered_by core (machine l) (Holds l) m old t 1 m [] 2 old (refused_at_once m t 2 h.long f (rw d) (omega arith) (omega arith))
          (inr (inl (what_next ts, (said_of t (what_next ts) cs d).0, refl, refl, refl, refl))) h

  pub start_holds : Holds l (machine l).start []
  unfolding machine
  start_holds = record { long = length-replicate l.words 0; holds = loaded_zeros l.words; taken = nothing_loaded }

  whole_of : l.words ≤ 524288 → Whole core (machine l)
  whole_of h = whole_by core (machine l) (Holds l) answers (steady l apart h) start_holds

-- THE LAYOUT of the whole memory fits: the countdown of 49,400 words is more than all moves on the longest text
moves_fit : (w : ℕ) → w ≡ 49400 → most_moves 4096 ≤ moves_of w
unfolding moves_of
moves_fit w e = let h = most_moves_below 4096 13 (64 * w) (lit< tt) (omega arith) in omega arith

pub own_apart : Apart own_layout
unfolding own_layout
own_apart =
    record {
      work_behind = omega arith;
      pairs_behind = omega arith;
      within = omega arith;
      pairs_fit = refl;
      stack_fits = lit≤ tt;
      fuel_fits = moves_fit 49400 refl;
    }

layout_small : own_layout.words ≤ 524288
unfolding own_layout
layout_small = omega arith

pub whole : Whole core own
unfolding own
whole = whole_of own_layout own_apart layout_small
