-- LR(1) items behind a stack. Assumes nothing: these are definitions.
use Rattle.std.specs.Prelude.{◌≡◌, ℕ, ◌<◌, List, [], ◌∷◌, length}
use Rattle.grammar.specs.Grammar.{Sym, name, Grammar, rule}
use Rattle.grammar.specs.Trees.{Yields}

-- STACKS stand with their top first: onto β γ is γ with the symbols of β pushed on it, one by one
abbrev pub onto : {A : Type 0} → List A → List A → List A
onto [] γ = γ
onto (x ∷ β) γ = onto β (x ∷ γ)

-- the first sign of a row, or t if it has none
abbrev pub first_or : List ℕ → ℕ → ℕ
first_or [] t = t
first_or (x ∷ xs) t = x

-- the sign ahead, 24 for the end
abbrev pub lookahead : List ℕ → ℕ
lookahead ts = first_or ts 24

-- AN ITEM, valid behind the stack γ: of the rule r the symbols β are still to come, and then the lookahead t.
-- It is complete when β is []. A rule of a name that is next is begun there, with what can stand first behind that name.
pub data Valid (g : Grammar) : List Sym → ℕ → List Sym → ℕ → Type 0 where
  start : Valid g [] 0 (rule g 0).right 24
  advance : {γ : List Sym} {r : ℕ} {x : Sym} {β : List Sym} {t : ℕ} → Valid g γ r (x ∷ β) t → Valid g (x ∷ γ) r β t
  close : {γ : List Sym} {r n : ℕ} {β : List Sym} {t : ℕ} {v rs : List ℕ} (q : ℕ) → q < length g → (rule g q).left ≡ n →
      Valid g γ r (name n ∷ β) t → Yields g β v rs → Valid g γ q (rule g q).right (first_or v t)
