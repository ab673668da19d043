-- What is so of the items of every grammar. Each statement is a type whose proof is owed. Assumes nothing.
use Rattle.std.specs.Prelude.{◌≡◌, ℕ, ◌<◌, true, ◌↔◌, List, [], ◌∷◌, ◌++◌, length, slice_index}
use Rattle.words.specs.Bits.{has_bit}
use Rattle.grammar.specs.Grammar.{every, Sym, name, Grammar, rule, form, signs, Makes, a_grammar, AllUseful}
use Rattle.grammar.specs.Trees.{Yields}
use Rattle.grammar.specs.Places.{places, rest, owner}
use Rattle.items.specs.Items.{onto, first_or, lookahead, Valid}
use Rattle.items.specs.First.{InFirst}
use Rattle.items.specs.Sets.{stackable, set_of, IsItemSet}

-- AN ITEM IN A FORM, as it is usually defined: a form has the left side of the rule r as its last name, behind `before`; the stack is `before` and what is done of
-- the rule's right side; β is what is still to come of it, and t the sign ahead behind the rule.
pub record InForm (g : Grammar) (γ : List Sym) (r : ℕ) (β : List Sym) (t : ℕ) : Type 0 where
  pub before : List Sym
  pub done : List Sym
  pub behind : List ℕ
  pub rules : List ℕ
  pub is_rule : r < length g
  pub parts : (rule g r).right ≡ done ++ β
  pub stack : onto γ [] ≡ before ++ done
  pub ahead : lookahead behind ≡ t
  pub forms : form g rules ≡ (before ++ name (rule g r).left ∷ signs behind) ∷ []

-- An item that is valid behind a stack stands in a form.
unfoldable pub ItemsSound : Type 0
ItemsSound = (g : Grammar) (γ : List Sym) (r : ℕ) (β : List Sym) (t : ℕ) → a_grammar g ≡ true → Valid g γ r β t → InForm g γ r β t

-- And an item that stands in a form is valid behind its stack.
unfoldable pub ItemsComplete : Type 0
ItemsComplete = (g : Grammar) (γ : List Sym) (r : ℕ) (β : List Sym) (t : ℕ) → a_grammar g ≡ true → InForm g γ r β t → Valid g γ r β t

-- A text that an item belongs to: u comes of its stack, v of what is to come, and t is ahead behind both.
pub record InText (g : Grammar) (γ : List Sym) (β : List Sym) (t : ℕ) : Type 0 where
  pub read : List ℕ
  pub next : List ℕ
  pub behind : List ℕ
  pub stack_rules : List ℕ
  pub next_rules : List ℕ
  pub rules : List ℕ
  pub stack_yields : Yields g (onto γ []) read stack_rules
  pub next_yields : Yields g β next next_rules
  pub ahead : lookahead behind ≡ t
  pub makes : Makes g rules (read ++ (next ++ behind))

-- If every name is of use, every valid item belongs to a text: no stack is a dead end.
unfoldable pub ItemsGoOn : Type 0
ItemsGoOn =
    (g : Grammar) (γ : List Sym) (r : ℕ) (β : List Sym) (t : ℕ) → a_grammar g ≡ true → AllUseful g → Valid g γ r β t → InText g γ β t

-- If every name is of use, closure is by FIRST: what `close` sets as lookahead is in FIRST of what stands behind the name, and all that is in it is valid.
unfoldable pub ClosureByFirst : Type 0
ClosureByFirst =
    (g : Grammar) (γ : List Sym) (r n : ℕ) (β : List Sym) (t q : ℕ) → AllUseful g → q < length g → (rule g q).left ≡ n → Valid g γ r (name n ∷ β) t →
    ((v rs : List ℕ) → Yields g β v rs → InFirst g β t (first_or v t)) × ((u : ℕ) → InFirst g β t u → Valid g γ q (rule g q).right u)

-- If every name is of use, the computed set of a stack is an item set, and has at each place just those lookaheads with which the item of that place is valid
-- behind the stack.
unfoldable pub SetsExact : Type 0
SetsExact =
    (g : Grammar) (γ : List Sym) → a_grammar g ≡ true → AllUseful g → every stackable γ ≡ true →
    IsItemSet g (set_of g γ) × ((p t : ℕ) → p < places g → (has_bit t (slice_index (set_of g γ) p) ≡ true) ↔ Valid g γ (owner g p) (rest g p) t)
