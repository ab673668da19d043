-- Derivation trees: the signs that a row of symbols yields, and the rules in the order in which they end. Assumes nothing: these are definitions.
use Rattle.std.specs.Prelude.{◌≡◌, ℕ, ◌<◌, ◌↔◌, List, [], ◌∷◌, ◌++◌, length}
use Rattle.grammar.specs.Grammar.{backwards, Sym, sign, name, Grammar, rule, signs, comes_by}

-- a name yields what the right side of one of its rules yields; that rule ends behind the rules used below it
pub data Yields (g : Grammar) : List Sym → List ℕ → List ℕ → Type 0 where
  empty : Yields g [] [] []
  leaf : {t : ℕ} {β : List Sym} {v rs : List ℕ} → Yields g β v rs → Yields g (sign t ∷ β) (t ∷ v) rs
  node : {n : ℕ} {β : List Sym} {u v rs qs : List ℕ} (q : ℕ) → q < length g → (rule g q).left ≡ n →
      Yields g (rule g q).right u rs → Yields g β v qs → Yields g (name n ∷ β) (u ++ v) (rs ++ q ∷ qs)

-- Trees are derivations from the right, read from the end: what a row yields by them comes of it by their rules backwards, and nothing else does.
unfoldable pub TreesExact : Type 0
TreesExact =
    (g : Grammar) (f : List Sym) (ts rs : List ℕ) → Yields g f ts rs ↔ (comes_by g (backwards rs) (f ∷ []) ≡ signs ts ∷ [])
