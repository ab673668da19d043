-- The machine's steps: the guard, and the lengths of its memory.
use Rattle.std.proofs.Common.{◌≡◌, ℕ, suc, ◌<◌, ◌≤◌, true, false, ◌&&◌, eqb, ltb, leb, List, [], ◌∷◌, length, refl, ◌∙◌, arith, length-set, get_or-set_same}
use lib.ListN.{length-replicate}
use Rattle.std.proofs.lemmas.Bool.{and_from, eq-eqb, ne_eqb, le-leb, lt-ltb}
use Rattle.reader.specs.Promise.{Event, said, next, runs, ran, one_act}
use Rattle.reader.specs.Memory.{Layout, phase_in, with_phase}
use Rattle.reader.specs.Machine.{machine, stepped, answered, goes_on, a_refusal, refuses, event_fits, row_fits}
use Rattle.reader.specs.Entry.{own, own_layout}

pub machine_length : (l : Layout) → length (machine l).start ≡ l.words
unfolding machine
machine_length l = length-replicate l.words 0

-- the guard is passed
pub stepped_fits : (l : Layout) (m : List ℕ) (ev : Event) → length m ≡ l.words → event_fits ev ≡ true → stepped l m ev ≡ answered l m ev
unfolding stepped
stepped_fits l m ev e f = rw (eq-eqb (length m) l.words e, f)

pub own_words : (m : List ℕ) → length m ≡ 524288 → length m ≡ own_layout.words
unfolding own_layout
own_words m e = e

pub layout_words : own_layout.words ≡ 524288
unfolding own_layout
layout_words = refl

pub own_length : length own.start ≡ 524288
unfolding own
own_length = machine_length own_layout ∙ layout_words

-- one step of a command, where the guard is passed
pub runs_step : (l : Layout) (k : ℕ) (m : List ℕ) (ev : Event) (ss : List (List ℕ)) → length m ≡ l.words → event_fits ev ≡ true →
    runs (suc k) (machine l) m ev ss ≡ one_act (λ m₁ ss₁. runs k (machine l) m₁ next ss₁) ss (answered l m ev).memory (answered l m ev).act
unfolding runs machine
runs_step l k m ev ss e f = rw (stepped_fits l m ev e f)

-- what was shown is refused by the number that the phase has
pub refused_next : (l : Layout) (m : List ℕ) (k : ℕ) (ss : List (List ℕ)) → length m ≡ l.words → 258 < length m → 4 ≤ k → k ≤ 6 →
    runs 1 (machine l) (with_phase k m) next ss ≡ ran (with_phase 0 (with_phase k m)) ss k
unfolding answered goes_on one_act event_fits
refused_next l m k ss e h a b =
    let p : phase_in (with_phase k m) ≡ k = get_or-set_same m 258 k 0 h in
    let n₁ : eqb k 1 ≡ false = ne_eqb k 1 (λ z. omega arith) in
    let n₂ : eqb k 2 ≡ false = ne_eqb k 2 (λ z. omega arith) in
    let r : a_refusal k ≡ true = and_from _ _ (le-leb 4 k a) (le-leb k 6 b) in
    let s : (leb 1 k && ltb k 1000) ≡ true = and_from _ _ (le-leb 1 k (omega arith)) (lt-ltb k 1000 (omega arith)) in
    runs_step l 0 (with_phase k m) next ss (length-set m 258 k ∙ e) refl ∙ rw (p, n₁, n₂, r, s)

-- a row is shown, and then refused by its number
pub refused_shown : (l : Layout) (m t m₁ row : List ℕ) (k : ℕ) → length m ≡ l.words → row_fits t ≡ true → answered l m (said t) ≡ refuses m₁ k row →
    length m₁ ≡ l.words → 258 < length m₁ → length row ≤ 32 → 4 ≤ k → k ≤ 6 →
    runs 2 (machine l) m (said t) [] ≡ ran (with_phase 0 (with_phase k m₁)) (row ∷ []) k
unfolding one_act event_fits
refused_shown l m t m₁ row k e f s e₁ h r a b =
    runs_step l 1 m (said t) [] e f ∙ rw (s, le-leb (length row) 32 r) (refused_next l m₁ k (row ∷ []) e₁ h a b)
