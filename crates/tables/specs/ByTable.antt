-- Reading by a table of item sets, as a machine of its own, and when a table is right. Assumes nothing: these are definitions.
use Rattle.std.specs.Prelude.{◌≡◌, ℕ, suc, ◌+◌, ◌-◌, ◌*◌, ◌≤◌, Bool, true, false, ◌⊎◌, List, [], ◌∷◌, length, drop, ◌==◌, nat_le, slice_index}
use Rattle.grammar.specs.Grammar.{pick, Sym, sign, name, Grammar, rule}
use Rattle.items.specs.Items.{lookahead}

-- A TABLE has 56 entries for each set: a column for each sign, 0 to 23, one for the end, 24, and one for each name but the beginning's, 25 to 55.
-- An entry is 0: wrong; up to 64: the rule that is one less is reduced; from 65 on: shift or goto, to the set that is 65 less.
abbrev pub entry : List ℕ → ℕ → ℕ → ℕ
entry T s c = slice_index T (s * 56 + c)

-- the column of a symbol
abbrev pub column : Sym → ℕ
column (sign t) = t
column (name n) = 24 + n

-- ONE STEP: a sign is shifted, a rule reduced, or it is over
pub data Stepped : Type 0 where
  shifted : (sets left : List ℕ) → Stepped
  reduced : ℕ → (sets left : List ℕ) → Stepped
  fine : Stepped
  stuck : Stepped

unfoldable pub shift_to : ℕ → (sets left : List ℕ) → Stepped
shift_to s ss [] = stuck
shift_to s ss (t ∷ ρ) = shifted (s ∷ ss) ρ

-- the sets behind a name; behind the beginning's there are none
unfoldable pub goto_over : List ℕ → ℕ → List ℕ → List ℕ
goto_over T n [] = []
goto_over T n (s ∷ ss) = pick (n == 0) [] ((entry T s (24 + n) - 65) ∷ s ∷ ss)

unfoldable pub by_entry : Grammar → List ℕ → ℕ → (sets left : List ℕ) → Stepped
by_entry g T e ss ρ =
    pick (e == 0) stuck
    (pick (nat_le e 64) (reduced (e - 1) (goto_over T (rule g (e - 1)).left (drop (length (rule g (e - 1)).right) ss)) ρ) (shift_to (e - 65) ss ρ))

-- the sets stand with the top first; there are none when the beginning's rule has been reduced
unfoldable pub table_step : Grammar → List ℕ → (sets left : List ℕ) → Stepped
table_step g T [] [] = fine
table_step g T [] (t ∷ ρ) = stuck
table_step g T (s ∷ ss) ρ = by_entry g T (entry T s (lookahead ρ)) (s ∷ ss) ρ

-- HOW IT GOES ON, in so many steps: the rules that are reduced, and then it is fine, or wrong with so many signs left
pub data Goes (g : Grammar) (T : List ℕ) : (sets left : List ℕ) → (steps : ℕ) → (rules : List ℕ) → (well : Bool) → (over : ℕ) → Type 0 where
  now_fine : {ss ρ : List ℕ} → table_step g T ss ρ ≡ fine → Goes g T ss ρ 1 [] true 0
  now_wrong : {ss ρ : List ℕ} → table_step g T ss ρ ≡ stuck → Goes g T ss ρ 1 [] false (length ρ)
  on_shift : {ss ρ : List ℕ} (ss₁ ρ₁ : List ℕ) {k : ℕ} {rs : List ℕ} {b : Bool} {l : ℕ} → table_step g T ss ρ ≡ shifted ss₁ ρ₁ →
      Goes g T ss₁ ρ₁ k rs b l → Goes g T ss ρ (suc k) rs b l
  on_reduce : {ss ρ : List ℕ} (r : ℕ) (ss₁ ρ₁ : List ℕ) {k : ℕ} {rs : List ℕ} {b : Bool} {l : ℕ} → table_step g T ss ρ ≡ reduced r ss₁ ρ₁ →
      Goes g T ss₁ ρ₁ k rs b l → Goes g T ss ρ (suc k) (r ∷ rs) b l

-- A RIGHT TABLE, for sets that are numbered by their stacks, top first: It are the items that a stack's set has.
pub record RightTable (g : Grammar) (It : List Sym → ℕ → List Sym → ℕ → Type 0) (number : List Sym → ℕ) (T : List ℕ) : Type 0 where
  pub starts : number [] ≡ 0
  -- shift or goto
  pub gotos : {γ : List Sym} {r : ℕ} {x : Sym} {β : List Sym} {u : ℕ} → It γ r (x ∷ β) u → entry T (number γ) (column x) ≡ 65 + number (x ∷ γ)
  pub reduces : {γ : List Sym} {r t : ℕ} → It γ r [] t → entry T (number γ) t ≡ suc r
  -- and nothing else: before a sign, or the end, for which a set that has items has neither, the entry is wrong
  pub else_wrong : {γ : List Sym} {r : ℕ} {β : List Sym} {u : ℕ} (t : ℕ) → t ≤ 24 → It γ r β u →
      ((q : ℕ) × It γ q [] t) ⊎ (((q : ℕ) × (α : List Sym) × (v : ℕ) × It γ q (sign t ∷ α) v) ⊎ (entry T (number γ) t ≡ 0))
