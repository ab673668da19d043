-- Where there is a move, where a run is stuck, and when a run is the beginning of another. Assumes nothing: these are definitions.
use Rattle.std.specs.Prelude.{◌≡◌, ℕ, ◌≤◌, Bool, true, ◌⊎◌, List, [], ◌∷◌, ◌++◌}
use Rattle.grammar.specs.Grammar.{Sym, sign, Grammar}
use Rattle.items.specs.Items.{lookahead, Valid}
use Rattle.parser.specs.Runs.{Run}

-- some item behind the stack γ has the sign t next
abbrev pub CanShift : Grammar → List Sym → ℕ → Type 0
CanShift g γ t = (r : ℕ) × (β : List Sym) × (u : ℕ) × Valid g γ r (sign t ∷ β) u

-- behind the stack γ, with t ahead, a rule can be reduced, or that sign be shifted
abbrev pub CanReduce : Grammar → List Sym → ℕ → Type 0
CanReduce g γ t = (r : ℕ) × Valid g γ r [] t

abbrev pub CanMove : Grammar → List Sym → ℕ → Type 0
CanMove g γ t = CanReduce g γ t ⊎ CanShift g γ t

-- a test for that, of a sign or the end
abbrev pub TestsMoves : Grammar → (List Sym → ℕ → Bool) → Type 0
TestsMoves g can = (γ : List Sym) (t : ℕ) → t ≤ 24 → (can γ t ≡ true → CanMove g γ t) × (CanMove g γ t → can γ t ≡ true)

-- behind the stack γ, before ρ, there is no move
pub record Stuck (g : Grammar) (γ : List Sym) (ρ : List ℕ) : Type 0 where
  pub no_reduce : (r : ℕ) → Valid g γ r [] (lookahead ρ) → ⊥
  pub no_shift : (t : ℕ) (σ : List ℕ) → ρ ≡ t ∷ σ → CanShift g γ t → ⊥

-- a run that shifted vs and reduced qs to the stack γ is the beginning of one that shifted us and reduced rs to the stack γ' before ρ
pub record BeginningOf (g : Grammar) (vs qs : List ℕ) (γ : List Sym) (us rs : List ℕ) (γ' : List Sym) (ρ : List ℕ) : Type 0 where
  pub shifted : List ℕ
  pub reduced : List ℕ
  pub shifts_so : us ≡ vs ++ shifted
  pub reduces_so : rs ≡ qs ++ reduced
  pub run : Run g γ shifted γ' ρ reduced

-- a run from the stack γ before ρ that gets stuck
pub record Halts (g : Grammar) (γ : List Sym) (ρ : List ℕ) : Type 0 where
  pub shifted : List ℕ
  pub left : List ℕ
  pub adds : ρ ≡ shifted ++ left
  pub last : List Sym
  pub rules : List ℕ
  pub run : Run g γ shifted last left rules
  pub stuck : Stuck g last left
