-- A run as its loop sees it: what is left to run equals the whole.
use Rattle.std.proofs.Common.{◌≡◌, ℕ, ◌+◌, ◌<◌, ◌≤◌, leb, List, Ok, Err, Result, sym, refl, ap, ◌∙◌, add-one}
use Rattle.std.proofs.lemmas.Bool.{le-leb, lt-leb}
use Rattle.grammar.specs.Grammar.{pick, Grammar}
use Rattle.parser.specs.declared.config.Step.{Step}
use Rattle.parser.specs.declared.config.Step.TheVariants.{Shifted, Reduced}
use Rattle.parser.specs.declared.config.Halt.{Halt as HaltTold}
use Rattle.parser.specs.declared.config.Halt.TheVariants.{Stuck, Full}
use Rattle.parser.specs.Drive.{Config, arrives, sticks, gives_out, on_stepped, moved, run_to}
use Rattle.parser.specs.Told.{Told, moved_by, halted}

module _ (last : ℕ) (g : Grammar) (ts : List ℕ) where
  pub run_out : (m : ℕ) (c : Config) → m ≡ 0 → run_to m last g ts c ≡ gives_out
  unfolding run_to
  run_out m c e = ap (λ k. run_to k last g ts c) e

  -- a turn that was paid for
  module _ (m n : ℕ) (c : Config) (paid : n + 1 ≡ m) where
    run_once : run_to m last g ts c ≡ pick (leb last c.taken) (arrives c) (on_stepped (run_to n last g ts) c (moved g ts c))
    unfolding run_to
    run_once = ap (λ k. run_to k last g ts c) (sym paid ∙ add-one n)

    pub run_arrived : last ≤ c.taken → run_to m last g ts c ≡ arrives c
    run_arrived h = run_once ∙ ap (λ b. pick b (arrives c) (on_stepped (run_to n last g ts) c (moved g ts c))) (le-leb last c.taken h)

    -- a move
    module _ (d : Config) (r : Result Step HaltTold) (before : c.taken < last) (t : Told (moved g ts c) c r d) where
      run_moved : run_to m last g ts c ≡ on_stepped (run_to n last g ts) c (moved_by r d)
      run_moved =
          run_once ∙ ap (λ b. pick b (arrives c) (on_stepped (run_to n last g ts) c (moved g ts c))) (lt-leb last c.taken before)
          ∙ ap (on_stepped (run_to n last g ts) c) t.is

      pub run_on : (s : Step) → r ≡ Ok s → run_to m last g ts c ≡ run_to n last g ts d
      unfolding on_stepped moved_by
      run_on s e = run_moved ∙ ap (λ z. on_stepped (run_to n last g ts) c (moved_by z d)) e ∙ go s
        where
          go : (s : Step) → on_stepped (run_to n last g ts) c (moved_by (Ok s) d) ≡ run_to n last g ts d
          go Shifted = refl
          go (Reduced k) = refl

      pub run_off : (h : HaltTold) → r ≡ Err h → run_to m last g ts c ≡ halted (Err h) d
      unfolding on_stepped moved_by halted
      run_off h e = run_moved ∙ ap (λ z. on_stepped (run_to n last g ts) c (moved_by z d)) e ∙ go h e
        where
          go : (h : HaltTold) → r ≡ Err h → on_stepped (run_to n last g ts) c (moved_by (Err h) d) ≡ halted (Err h) d
          go Stuck e = ap sticks (sym (t.kept (rw e refl)))
          go Full e = refl
