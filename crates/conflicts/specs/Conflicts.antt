-- Conflicts of LR(1) items, and pairs of items that share a stack. Assumes nothing: these are definitions.
use Rattle.std.specs.Prelude.{◌≡◌, ℕ, ◌<◌, List, [], ◌∷◌, length}
use Rattle.grammar.specs.Grammar.{Sym, sign, name, Grammar, rule}
use Rattle.grammar.specs.Trees.{Yields}
use Rattle.items.specs.Items.{first_or, Valid}

-- behind no stack two rules are complete with one lookahead, nor is one where another item has that sign next
pub record NoConflict (g : Grammar) : Type 0 where
  pub reduce_reduce : {γ : List Sym} {r q t : ℕ} → Valid g γ r [] t → Valid g γ q [] t → r ≡ q
  pub shift_reduce : {γ : List Sym} {r q t u : ℕ} {β : List Sym} → Valid g γ r [] t → Valid g γ q (sign t ∷ β) u → ⊥

-- two items that are valid behind one stack, without the stack: of these there are finitely many
pub data Both (g : Grammar) : ℕ → List Sym → ℕ → ℕ → List Sym → ℕ → Type 0 where
  starts : Both g 0 (rule g 0).right 24 0 (rule g 0).right 24
  advances : {r : ℕ} {x : Sym} {β : List Sym} {t q : ℕ} {α : List Sym} {u : ℕ} → Both g r (x ∷ β) t q (x ∷ α) u → Both g r β t q α u
  closes_left : {r n : ℕ} {β : List Sym} {t q : ℕ} {α : List Sym} {u : ℕ} {v rs : List ℕ} (p : ℕ) → p < length g → (rule g p).left ≡ n →
      Both g r (name n ∷ β) t q α u → Yields g β v rs → Both g p (rule g p).right (first_or v t) q α u
  closes_right : {r n : ℕ} {β : List Sym} {t q : ℕ} {α : List Sym} {u : ℕ} {v rs : List ℕ} (p : ℕ) → p < length g → (rule g p).left ≡ n →
      Both g q α u r (name n ∷ β) t → Yields g β v rs → Both g q α u p (rule g p).right (first_or v t)
