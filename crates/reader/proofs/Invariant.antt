-- The main promise from an invariant: what memory holds, beside what is loaded, before and after each row.
use Rattle.std.proofs.Common.{◌≡◌, ℕ, Bool, true, List, [], ◌∷◌, refl}
use Rattle.std.proofs.lemmas.Bool.{and_parts}
use Rattle.grammar.specs.Grammar.{every}
use Rattle.reader.specs.House.{Command, Loaded}
use Rattle.reader.specs.Promise.{Engine, said, Steady, Whole, Right, May, runs, ran}
use Rattle.reader.specs.Machine.{row_fits}

-- one row answered: in so many steps, with this loaded afterwards
pub record Answered (known : Command → Bool) (e : Engine) (Holds : List ℕ → Loaded → Type 0) (m : List ℕ) (old : Loaded) (t : List ℕ) : Type 0 where
  pub steps : ℕ
  pub new : Loaded
  pub may : May known t (runs steps e m (said t) []).end (runs steps e m (said t) []).showed old new
  pub holds : Holds (runs steps e m (said t) []).memory new

-- from how the command went
pub answered_by : (known : Command → Bool) (e : Engine) (Holds : List ℕ → Loaded → Type 0) (m : List ℕ) (old : Loaded) (t : List ℕ)
    (n : ℕ) (m₁ : List ℕ) (rows : List (List ℕ)) (k : ℕ) (new : Loaded) → runs n e m (said t) [] ≡ ran m₁ rows k →
    May known t k rows old new → Holds m₁ new → Answered known e Holds m old t
answered_by known e Holds m old t n m₁ rows k new r y h = record { steps = n; new = new; may = rw r y; holds = rw r h }

module _ (known : Command → Bool) (e : Engine) (Holds : List ℕ → Loaded → Type 0)
    (answers : (m : List ℕ) (old : Loaded) (t : List ℕ) → Holds m old → row_fits t ≡ true → Answered known e Holds m old t) where
  pub right_by : (m : List ℕ) (old : Loaded) (ts : List (List ℕ)) → Holds m old → every row_fits ts ≡ true → Right known e m old ts
  unfolding Right every
  right_by m old [] h k = refl
  right_by m old (t ∷ ts) h k =
      let p = and_parts (row_fits t) (every row_fits ts) k in
      let a = answers m old t h p.0 in
      (a.steps, a.new, a.may, right_by (runs a.steps e m (said t) []).memory a.new ts a.holds p.1)

  pub whole_by : Steady e → Holds e.start [] → Whole known e
  unfolding Whole
  whole_by s h = (s, λ ts few k. right_by e.start [] ts h k)
