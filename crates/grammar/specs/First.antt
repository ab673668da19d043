-- Nullable rows and FIRST sets: which rows can come to nothing, and with which signs a row can begin. Assumes nothing: these are definitions.
use Rattle.std.specs.Prelude.{◌≡◌, ℕ, ◌<◌, ◌↔◌, List, [], ◌∷◌, ◌++◌, length}
use Rattle.grammar.specs.Grammar.{Sym, sign, name, Grammar, rule, AllUseful}
use Rattle.grammar.specs.Trees.{Yields}

-- nullable: each of its names has a rule whose right side is nullable
pub data Vanishes (g : Grammar) : List Sym → Type 0 where
  vanish_nil : Vanishes g []
  vanish_name : {n : ℕ} {β : List Sym} (q : ℕ) → q < length g → (rule g q).left ≡ n →
      Vanishes g (rule g q).right → Vanishes g β → Vanishes g (name n ∷ β)

-- FIRST: the row's first sign, or one that a rule of its first name opens with, or, past a nullable name, one that the rest opens with
pub data Opens (g : Grammar) : List Sym → ℕ → Type 0 where
  open_sign : {u : ℕ} {β : List Sym} → Opens g (sign u ∷ β) u
  open_name : {u n : ℕ} {β : List Sym} (q : ℕ) → q < length g → (rule g q).left ≡ n →
      Opens g (rule g q).right u → Opens g (name n ∷ β) u
  open_past : {u n : ℕ} {β : List Sym} (q : ℕ) → q < length g → (rule g q).left ≡ n →
      Vanishes g (rule g q).right → Opens g β u → Opens g (name n ∷ β) u

-- A row is nullable if and only if it yields nothing.
unfoldable pub NullableExact : Type 0
NullableExact = (g : Grammar) (β : List Sym) → Vanishes g β ↔ ((rs : List ℕ) × Yields g β [] rs)

-- If every name is of use, a part of a right side opens with just those signs that something it yields begins with.
unfoldable pub FirstExact : Type 0
FirstExact =
    (g : Grammar) (r u : ℕ) (d β : List Sym) → AllUseful g → (rule g r).right ≡ d ++ β → Opens g β u ↔ ((v rs : List ℕ) × Yields g β (u ∷ v) rs)
