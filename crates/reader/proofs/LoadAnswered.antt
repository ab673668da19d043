-- A grammar that is said is answered as it may be, and what is loaded then is held.
use Rattle.std.proofs.Common.{◌≡◌, ℕ, ◌+◌, ◌<◌, ◌≤◌, true, List, [], ◌∷◌, length, replicate, refl, ◌∙◌, inl, inr, arith, length-set}
use lib.ListN.{length-replicate}
use Rattle.grammar.specs.Grammar.{Grammar, Clash}
use Rattle.grammar.specs.Spelling.{grammar_spelled}
use Rattle.grammar.specs.Analysis.{useless}
use Rattle.grammar.proofs.Useless.{useless_none, useless_some}
use Rattle.conflicts.specs.Pairs.{clash_of}
use Rattle.conflicts.proofs.Finder.{clash_none, clash_some}
use Rattle.reader.specs.House.{load, Loaded, Answer, Loading, core}
use Rattle.reader.specs.Decode.{decode}
use Rattle.reader.specs.Promise.{said, Said, May, runs, ran, one_act}
use Rattle.reader.specs.Memory.{Layout, Apart, with_phase, cleared, with_spelling, loaded}
use Rattle.reader.specs.Machine.{machine, answered, commanded, on_useless, on_clash, refuses, event_fits, row_fits}
use Rattle.reader.proofs.Decoding.{said_of}
use Rattle.reader.proofs.Said.{Spelling, spelling}
use Rattle.reader.proofs.MemoryLaws.{length_cleared, length_spelled, loaded_set, loaded_replaced, loaded_spelled}
use Rattle.reader.proofs.Steps.{runs_step, refused_shown}
use Rattle.reader.specs.Holds.{Holds, one_loaded}
use Rattle.reader.proofs.Invariant.{Answered, answered_by}

module _ (l : Layout) (apart : Apart l) (m : List ℕ) (old : Loaded) (t : List ℕ) (g : Grammar) (h : Holds l m old) (f : row_fits t ≡ true)
    (d : decode t ≡ load g ∷ []) where
  room : 258 < length m
  room = omega (arith, h.long, apart.work_behind, apart.pairs_behind, apart.within)

  lent : l.pairs + l.pair_words ≤ length m
  lent = omega (arith, h.long, apart.within)

  m₁ : List ℕ
  m₁ = cleared l.pairs l.pair_words m

  saying : Said t (load g)
  saying = (said_of t (load g) [] d).0

  spelt : Spelling g
  spelt = spelling t g f saying

  -- refused: a row is shown, and the grammar that was loaded is kept
  refused_as : (m₂ row : List ℕ) (k : ℕ) → answered l m (said t) ≡ refuses m₂ k row → length m₂ ≡ length m → loaded m₂ ≡ loaded m → length row ≤ 32 → 4 ≤ k → k ≤ 6 →
      Loading g k (row ∷ []) old old → Answered core (machine l) (Holds l) m old t
  unfolding May Answer core
  refused_as m₂ row k s e q r a b ok =
      let e₂ : length m₂ ≡ l.words = e ∙ h.long in
      answered_by core (machine l) (Holds l) m old t 2 (with_phase 0 (with_phase k m₂)) (row ∷ []) k old
      (refused_shown l m t m₂ row k h.long f s e₂ (omega (arith, e, room)) r a b)
      (inl (load g, saying, refl, ok))
      (record {
        long = length-set (with_phase k m₂) 258 0 ∙ length-set m₂ 258 k ∙ e₂;
        holds = loaded_set 258 0 (with_phase k m₂) (omega arith) ∙ loaded_set 258 k m₂ (omega arith) ∙ q ∙ h.holds;
        taken = h.taken;
      })

  kept_pairs : (length m₁ ≡ length m) × (loaded m₁ ≡ loaded m)
  unfolding m₁
  kept_pairs = (
    length_cleared l.pairs l.pair_words m lent,
    loaded_replaced l.pairs l.pair_words (replicate l.pair_words 0) m (omega (arith, apart.work_behind, apart.pairs_behind)) lent (length-replicate l.pair_words 0),
  )

  -- a name of no use
  useless_answered : (n : ℕ) (ns : List ℕ) → useless g ≡ n ∷ ns → Answered core (machine l) (Holds l) m old t
  unfolding answered commanded on_useless Loading
  useless_answered n ns u =
      let p = useless_some g spelt.a_grammar_so n ns u in
      refused_as m (n ∷ []) 6 (rw (d, u)) refl refl (omega arith) (omega arith) (omega arith)
      (inr (inr (n, p.0, λ x. absurd (p.1 x), refl, refl, refl)))

  -- a clash
  clash_answered : (c : Clash) (cs : List Clash) → useless g ≡ [] → clash_of g ≡ c ∷ cs → Answered core (machine l) (Holds l) m old t
  unfolding answered commanded on_useless on_clash Loading m₁
  clash_answered c cs u e =
      let all = useless_none g spelt.a_grammar_so u in
      refused_as m₁ (c.due ∷ c.other ∷ c.ahead ∷ []) 5 (rw (d, u, e)) kept_pairs.0 kept_pairs.1 (omega arith) (omega arith) (omega arith)
      (inr (inl (all, c, clash_some g spelt.a_grammar_so all c cs e, refl, refl, refl)))

  -- taken
  load_done : useless g ≡ [] → clash_of g ≡ [] → Answered core (machine l) (Holds l) m old t
  unfolding answered commanded on_useless on_clash Loading one_act event_fits May Answer core m₁
  load_done u e =
      let all = useless_none g spelt.a_grammar_so u in
      let enough = clash_none g spelt.a_grammar_so all e in
      let long₁ : 258 < length m₁ = omega (arith, kept_pairs.0, room) in
      let m₂ : List ℕ = with_spelling (grammar_spelled g) m₁ in
      let ran_so : runs 1 (machine l) m (said t) [] ≡ ran (with_phase 0 m₂) [] 0 = runs_step l 0 m (said t) [] h.long f ∙ rw (d, u, e) in
      answered_by core (machine l) (Holds l) m old t 1 (with_phase 0 m₂) [] 0 (g ∷ []) ran_so
      (inl (load g, saying, refl, inl (all, enough, refl, refl, refl)))
      (record {
        long = length-set m₂ 258 0 ∙ length_spelled (grammar_spelled g) m₁ long₁ spelt.short ∙ kept_pairs.0 ∙ h.long;
        holds = loaded_set 258 0 m₂ (omega arith) ∙ loaded_spelled g m₁ long₁ spelt.short spelt.bytes spelt.a_grammar_so;
        taken = one_loaded (record { fits = spelt.a_grammar_so; useful = all; enough = enough });
      })

  pub load_answered : Answered core (machine l) (Holds l) m old t
  load_answered = by_useless (useless g) refl
    where
      by_clash : useless g ≡ [] → (cs : List Clash) → clash_of g ≡ cs → Answered core (machine l) (Holds l) m old t
      by_clash u [] e = load_done u e
      by_clash u (c ∷ cs) e = clash_answered c cs u e

      by_useless : (ns : List ℕ) → useless g ≡ ns → Answered core (machine l) (Holds l) m old t
      by_useless [] u = by_clash u (clash_of g) refl
      by_useless (n ∷ ns) u = useless_answered n ns u
