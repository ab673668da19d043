-- Which items stand behind a row of symbols, and how many such sets come about. Assumes nothing: these are definitions, and no machine is in them.
use Rattle.std.specs.Prelude.{◌≡◌, ℕ, ◌<◌, ◌≤◌, true, ◌↔◌, List, [], ◌∷◌, ◌++◌, length, take}
use Rattle.grammar.specs.Grammar.{Sym, name, Grammar, rule, form, all_signs, look}

-- AN ITEM BEHIND A ROW: some form has the left side of rule r as its last name, and the sign t ahead of what is behind it (24: the end);
-- the row f is what stands before that name, and then the first d symbols of the rule's right side.
pub record Stands (g : Grammar) (f : List Sym) (r d t : ℕ) : Type 0 where
  pub rules : List ℕ
  pub before : List Sym
  pub behind : List Sym
  pub forms : form g rules ≡ (before ++ name (rule g r).left ∷ behind) ∷ []
  pub last : all_signs behind ≡ true
  pub ahead : look behind ≡ t
  pub is_rule : r < length g
  pub dot : d ≤ length (rule g r).right
  pub row : f ≡ before ++ take d (rule g r).right

-- a viable prefix: some item stands behind it
pub record Viable (g : Grammar) (f : List Sym) : Type 0 where
  pub of_rule : ℕ
  pub at_dot : ℕ
  pub before_sign : ℕ
  pub stands : Stands g f of_rule at_dot before_sign

-- the same items stand behind both
unfoldable pub Alike : Grammar → List Sym → List Sym → Type 0
Alike g f h = (r d t : ℕ) → Stands g f r d t ↔ Stands g h r d t

-- THE ITEM SETS ARE n: viable prefixes can be numbered below n, each number is used, and two have one number just if they are alike.
-- The set of no items, behind a row that is not viable, is none of them.
pub record Sets (g : Grammar) (n : ℕ) : Type 0 where
  pub number : List Sym → ℕ
  pub below : (f : List Sym) → Viable g f → number f < n
  pub used : (k : ℕ) → k < n → (f : List Sym) × Viable g f × (number f ≡ k)
  pub alike : (f h : List Sym) → Viable g f → Viable g h → number f ≡ number h → Alike g f h
  pub one : (f h : List Sym) → Viable g f → Viable g h → Alike g f h → number f ≡ number h

-- f is alike to none of these
unfoldable pub Unlike : Grammar → List Sym → List (List Sym) → Type 0
Unlike g f [] = Unit {0}
Unlike g f (h ∷ hs) = (Alike g f h → ⊥) × Unlike g f hs

unfoldable pub AllUnlike : Grammar → List (List Sym) → Type 0
AllUnlike g [] = Unit {0}
AllUnlike g (f ∷ fs) = Viable g f × Unlike g f fs × AllUnlike g fs

-- AT LEAST n: there are n viable prefixes, no two of them alike
unfoldable pub AtLeast : Grammar → ℕ → Type 0
AtLeast g n = (fs : List (List Sym)) × (length fs ≡ n) × AllUnlike g fs
