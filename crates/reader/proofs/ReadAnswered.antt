-- A text that is said is answered as it may be: by its reading, or by the first place where it is wrong.
use Rattle.std.proofs.Common.{◌≡◌, ℕ, suc, ◌+◌, ◌*◌, ◌<◌, ◌≤◌, true, not, eqb, ltb, leb, ◌⊎◌, List, [], ◌∷◌, ◌++◌, length, sym, refl, ap, ◌∙◌, subst, inl, inr, ⊎_elim, arith, length-set}
use Rattle.std.proofs.lemmas.Bool.{and_parts, and_from, leb-true, ltb-true, lt-ltb}
use Rattle.grammar.specs.Grammar.{every, each, backwards, Grammar, Makes}
use Rattle.grammar.specs.Texts.{NotMade, FirstWrong}
use Rattle.grammar.proofs.Sizes.{sizes}
use Rattle.parser.specs.Drive.{Ending, accepted, wrong, gave_out, check_of}
use Rattle.parser.specs.Drive.{start_config}
use Rattle.parser.specs.DriveStatements.{Checked, CheckIsExact, TellingIsTheReading, Tells}
use Rattle.parser.proofs.DriveTheorems.{check_is_exact_lem, telling_is_the_reading_lem}
use Rattle.reader.specs.House.{read_text, fits, Loaded, Answer, With, core, shown_rules}
use Rattle.reader.specs.Decode.{decode}
use Rattle.reader.specs.Promise.{said, next, Said, May, runs, ran, one_act}
use Rattle.reader.specs.Memory.{Layout, Apart, moves_of, with_phase, with_text, cleared, loaded}
use Rattle.reader.specs.Machine.{machine, stepped, answered, commanded, reads_with, on_ending, event_fits, row_fits}
use Rattle.reader.proofs.Decoding.{said_of}
use Rattle.reader.proofs.MemoryLaws.{loaded_set}
use Rattle.reader.proofs.Steps.{stepped_fits, runs_step, refused_shown}
use Rattle.reader.specs.Holds.{Holds, Taken, AllTaken, nothing_loaded, one_loaded}
use Rattle.reader.proofs.Invariant.{Answered, answered_by}
use Rattle.reader.proofs.PackedBytes.{a_byte}
use Rattle.reader.proofs.TextLaws.{spacious, cleared_length, cleared_loaded}
use Rattle.reader.proofs.Showing.{starts_showing, shows_rules, goes_tells}

pub signs_are_bytes : (ts : List ℕ) → every (λ t. ltb t 24) ts ≡ true → every a_byte ts ≡ true
unfolding every
signs_are_bytes [] h = refl
signs_are_bytes (t ∷ ts) h =
    let p = and_parts (ltb t 24) (every (λ t. ltb t 24) ts) h in
    and_from _ _ (lt-ltb t 256 (omega (arith, ltb-true t 24 p.0))) (signs_are_bytes ts p.1)

module _ (l : Layout) (apart : Apart l) (m t ts : List ℕ) (long : length m ≡ l.words) (f : row_fits t ≡ true) (d : decode t ≡ read_text ts ∷ []) where
  saying : Said t (read_text ts)
  saying = (said_of t (read_text ts) [] d).0

  a_text_so : (length ts ≤ 4096) × (every (λ t. ltb t 24) ts ≡ true)
  unfolding Said fits
  a_text_so = let p = and_parts (leb (length ts) 4096) (every (λ t. ltb t 24) ts) saying.1 in (leb-true (length ts) 4096 p.0, p.1)

  read_so : (old : Loaded) → loaded m ≡ old → answered l m (said t) ≡ reads_with l m ts old
  unfolding answered commanded
  read_so old e = rw (d, e)

  -- no grammar is loaded
  none_answered : Holds l m [] → Answered core (machine l) (Holds l) m [] t
  unfolding reads_with one_act event_fits May Answer core
  none_answered h =
      let e : runs 1 (machine l) m (said t) [] ≡ ran m [] 3 = runs_step l 0 m (said t) [] long f ∙ rw (read_so [] h.holds) in
      answered_by core (machine l) (Holds l) m [] t 1 m [] 3 [] e (inl (read_text ts, saying, refl, (refl, refl, refl))) h

  -- with a grammar
  module _ (g : Grammar) (h : Holds l m (g ∷ [])) (k : Taken g) where
    abbrev m₁ : List ℕ
    m₁ = cleared l.work (l.fuel + l.stack) m

    long₁ : length m₁ ≡ l.words
    long₁ = cleared_length l apart m long ∙ long

    ends_so : (e : Ending) → check_of g ts (8 * l.stack) (moves_of l.fuel) ≡ e → answered l m (said t) ≡ on_ending l m₁ ts e
    unfolding reads_with
    ends_so e q = read_so (g ∷ []) h.holds ∙ ap (on_ending l m₁ ts) q

    -- a text
    accepted_answered : (ds : List ℕ) → check_of g ts (8 * l.stack) (moves_of l.fuel) ≡ accepted → Makes g ds ts → Answered core (machine l) (Holds l) m (g ∷ []) t
    unfolding TellingIsTheReading on_ending event_fits runs machine May Answer With core
    accepted_answered ds q made =
        let told = telling_is_the_reading_lem g k.fits k.useful k.enough 4096 ds ts a_text_so.0 made (8 * l.stack) apart.stack_fits in
        let qs : List ℕ = told.1.0 in
        let e : backwards ds ≡ qs ++ 0 ∷ [] = told.1.1 in
        let n : every (λ r. not (eqb r 0)) qs ≡ true = told.1.2 in
        let s = starts_showing l apart g (sizes g k.fits) ts m long h.holds a_text_so.0 (signs_are_bytes ts a_text_so.1) in
        let tells_so : Tells g ts (start_config g (8 * l.stack)) (qs ++ 0 ∷ []) = subst (λ rs. Tells g ts (start_config g (8 * l.stack)) rs) e told.0 in
        let x = shows_rules l apart g (sizes g k.fits) ts qs (with_text ts m₁) (start_config g (8 * l.stack)) [] s n tells_so in
        let same : stepped l m (said t) ≡ stepped l (with_text ts m₁) next =
        stepped_fits l m (said t) long f ∙ ends_so accepted q ∙ sym (goes_tells l apart g (sizes g k.fits) ts (with_text ts m₁) (start_config g (8 * l.stack)) s) in
        let went : runs (suc x.steps) (machine l) m (said t) [] ≡ ran x.memory (shown_rules ds) 0 =
        rw same (x.went ∙ ap (λ (rs : List ℕ). ran x.memory (each (λ r. r ∷ []) rs) 0) (sym e)) in
        answered_by core (machine l) (Holds l) m (g ∷ []) t (suc x.steps) x.memory (shown_rules ds) 0 (g ∷ []) went
        (inl (read_text ts, saying, refl, (inl (ds, made, refl, refl), refl)))
        (record { long = x.long; holds = x.grammar; taken = h.taken })

    -- no text
    wrong_answered : (p : ℕ) → check_of g ts (8 * l.stack) (moves_of l.fuel) ≡ wrong p → NotMade g ts → FirstWrong g ts p →
        Answered core (machine l) (Holds l) m (g ∷ []) t
    unfolding on_ending May Answer With core
    wrong_answered p q none first =
        let behind : 258 < length m₁ = omega (arith, spacious l apart m₁ long₁) in
        answered_by core (machine l) (Holds l) m (g ∷ []) t 2 (with_phase 0 (with_phase 4 m₁)) ((p ∷ []) ∷ []) 4 (g ∷ [])
        (refused_shown l m t m₁ (p ∷ []) 4 long f (ends_so (wrong p) q) long₁ behind (omega arith) (omega arith) (omega arith))
        (inl (read_text ts, saying, refl, (inr (none, p, first, refl, refl), refl)))
        (record {
          long = length-set (with_phase 4 m₁) 258 0 ∙ length-set m₁ 258 4 ∙ long₁;
          holds = loaded_set 258 0 (with_phase 4 m₁) (omega arith) ∙ loaded_set 258 4 m₁ (omega arith) ∙ cleared_loaded l apart m long ∙ h.holds;
          taken = h.taken;
        })

    checked : Checked g ts (check_of g ts (8 * l.stack) (moves_of l.fuel))
    unfolding CheckIsExact
    checked =
        check_is_exact_lem g k.fits k.useful k.enough 4096 ts a_text_so.0 a_text_so.1 (8 * l.stack) (moves_of l.fuel)
        apart.stack_fits apart.fuel_fits

    one_answered : Answered core (machine l) (Holds l) m (g ∷ []) t
    unfolding Checked
    one_answered = go (check_of g ts (8 * l.stack) (moves_of l.fuel)) refl checked
      where
        go : (e : Ending) → check_of g ts (8 * l.stack) (moves_of l.fuel) ≡ e → Checked g ts e → Answered core (machine l) (Holds l) m (g ∷ []) t
        go accepted q c = accepted_answered c.0 q c.1
        go (wrong p) q c = wrong_answered p q c.0 c.1
        go gave_out q c = absurd c

none_or_one : (old : Loaded) → AllTaken old → (old ≡ []) ⊎ ((g : Grammar) × (old ≡ g ∷ []) × Taken g)
none_or_one _ nothing_loaded = inl refl
none_or_one _ (one_loaded {g = g} k) = inr (g, refl, k)

pub read_answered : (l : Layout) → Apart l → (m : List ℕ) (old : Loaded) (t ts : List ℕ) → Holds l m old → row_fits t ≡ true → decode t ≡ read_text ts ∷ [] →
    Answered core (machine l) (Holds l) m old t
read_answered l apart m old t ts h f d = ⊎_elim
    (λ e. subst (λ o. Holds l m o → Answered core (machine l) (Holds l) m o t) (sym e) (none_answered l apart m t ts h.long f d) h)
    (λ e. subst (λ o. Holds l m o → Answered core (machine l) (Holds l) m o t) (sym e.1)
    (λ h₁. one_answered l apart m t ts h.long f d e.0 h₁ e.2) h)
    (none_or_one old h.taken)
