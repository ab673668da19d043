-- What is so of the runs of every grammar that fits. Each statement is a type whose proof is owed. Assumes nothing.
use Rattle.std.specs.Prelude.{◌≡◌, ℕ, suc, ◌+◌, ◌*◌, ◌^◌, ◌<◌, ◌≤◌, Bool, true, List, [], ◌++◌, length, nat_lt}
use Rattle.grammar.specs.Grammar.{Sym, Grammar, every, a_grammar, AllUseful, Enough, Makes, backwards}
use Rattle.grammar.specs.Texts.{Begins, MayCome}
use Rattle.parser.specs.Runs.{Run, Accepts}
use Rattle.parser.specs.Moves.{CanMove, TestsMoves, Stuck, BeginningOf, Halts}
use Rattle.parser.specs.Outcomes.{Outcome, Continues}

-- Every text is accepted by the run that reduces its rules backwards; and what a run accepts is a text, by what it reduced, backwards.
unfoldable pub RunsAreReadings : Type 0
RunsAreReadings =
    (g : Grammar) → a_grammar g ≡ true →
    ((ds ts : List ℕ) → Makes g ds ts → Accepts g ts (backwards ds)) × ((rs ts : List ℕ) → Accepts g ts rs → Makes g (backwards rs) ts)

-- If one look ahead is enough, there is one way only: every run is the beginning of a run that gets stuck.
unfoldable pub RunsAreOneWay : Type 0
RunsAreOneWay =
    (g : Grammar) → a_grammar g ≡ true → AllUseful g → Enough g →
    (γ γ₁ γ₂ : List Sym) (us vs ρ₁ ρ₂ rs qs : List ℕ) → us ++ ρ₁ ≡ vs ++ ρ₂ → Run g γ us γ₁ ρ₁ rs → Stuck g γ₁ ρ₁ → Run g γ vs γ₂ ρ₂ qs →
    BeginningOf g vs qs γ₂ us rs γ₁ ρ₁

-- No run comes back to where it was: from a stack to the same stack, with nothing shifted, nothing was reduced.
unfoldable pub RunsDoNotRepeat : Type 0
RunsDoNotRepeat =
    (g : Grammar) → a_grammar g ≡ true → AllUseful g → Enough g → (γ : List Sym) (ρ rs : List ℕ) → Run g γ [] γ ρ rs → rs ≡ []

-- The stack has 128 symbols at most for each sign shifted, and 128 more.
unfoldable pub StackIsBounded : Type 0
StackIsBounded =
    (g : Grammar) → a_grammar g ≡ true → AllUseful g → Enough g →
    (γ : List Sym) (us ρ rs : List ℕ) → Run g [] us γ ρ rs → length γ ≤ 128 * (length us + 1)

-- The moves on a text of at most n signs are fewer than its configurations.
unfoldable pub MovesAreBounded : Type 0
MovesAreBounded =
    (g : Grammar) → a_grammar g ≡ true → AllUseful g → Enough g →
    (n : ℕ) (γ : List Sym) (us ρ rs : List ℕ) → length (us ++ ρ) ≤ n → Run g [] us γ ρ rs → length us + length rs < 65 ^ (128 * (n + 1)) * suc n

-- What was shifted begins a text.
unfoldable pub ShiftedBeginsAText : Type 0
ShiftedBeginsAText =
    (g : Grammar) → a_grammar g ≡ true → AllUseful g → (γ : List Sym) (us ρ rs : List ℕ) → Run g [] us γ ρ rs → Begins g us

-- Where a run is stuck, all is shifted and the text is made by what was reduced, or the text is not made, and first wrong there.
unfoldable pub WrongPlaceIsFirst : Type 0
WrongPlaceIsFirst =
    (g : Grammar) → a_grammar g ≡ true → AllUseful g → Enough g →
    (γ : List Sym) (us ρ rs : List ℕ) → every (λ t. nat_lt t 24) (us ++ ρ) ≡ true → Run g [] us γ ρ rs → Stuck g γ ρ → Outcome g (us ++ ρ) us rs

-- By a test for moves every text has such a run.
unfoldable pub TextsAreRead : Type 0
TextsAreRead =
    (g : Grammar) → a_grammar g ≡ true → AllUseful g → Enough g → (can : List Sym → ℕ → Bool) → TestsMoves g can →
    (ts : List ℕ) → every (λ t. nat_lt t 24) ts ≡ true → (h : Halts g [] ts) × Outcome g ts h.shifted h.rules

-- Behind the last shift, the signs that may come next are those with which there is a move; the same holds of the end, 24.
unfoldable pub NextSignsAreMoves : Type 0
NextSignsAreMoves =
    (g : Grammar) → a_grammar g ≡ true → AllUseful g → Enough g →
    (γ : List Sym) (us rs : List ℕ) → ((σ : List ℕ) → Run g [] us γ σ rs) → (t : ℕ) → (CanMove g γ t → MayCome g us t) × (MayCome g us t → CanMove g γ t)

-- By a test for moves it is known what may come next after a text, or where it is wrong before its end.
unfoldable pub NextSignsAreKnown : Type 0
NextSignsAreKnown =
    (g : Grammar) → a_grammar g ≡ true → AllUseful g → Enough g → (can : List Sym → ℕ → Bool) → TestsMoves g can →
    (ts : List ℕ) → every (λ t. nat_lt t 24) ts ≡ true → Continues g ts
