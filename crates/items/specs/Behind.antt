-- What a computed set says in the subject's words: it is the set of a stack, and has just the items that are valid behind it. Assumes nothing: these are definitions.
use Rattle.std.specs.Prelude.{◌≡◌, ℕ, ◌<◌, true, ◌↔◌, List, [], ◌∷◌, slice_index}
use Rattle.words.specs.Bits.{has_bit}
use Rattle.grammar.specs.declared.prepared.Prepared.{Prepared}
use Rattle.grammar.specs.Grammar.{every, Sym, Grammar, AllUseful}
use Rattle.grammar.specs.Spelling.{sym_spelled}
use Rattle.grammar.specs.Places.{places, owner, rest}
use Rattle.grammar.specs.Prepared.{Describes}
use Rattle.items.specs.Items.{Valid}
use Rattle.items.specs.Sets.{set_of, stackable}

-- s is the set of the stack γ; if every name is of use, it has bit t at a place just if that item is valid behind γ with t ahead
pub record Behind (g : Grammar) (γ : List Sym) (s : List ℕ) : Type 0 where
  pub is_set : s ≡ set_of g γ
  pub exact : AllUseful g → every stackable γ ≡ true → (p t : ℕ) → p < places g → (has_bit t (slice_index s p) ≡ true) ↔ Valid g γ (owner g p) (rest g p) t

abbrev pub Starts : Prepared → List ℕ → Type 0
Starts p r = (g : Grammar) → Describes p g → Behind g [] r

abbrev pub GoesTo : Prepared → List ℕ → ℕ → List ℕ → Type 0
GoesTo p s code r = (g : Grammar) → Describes p g → (γ : List Sym) (x : Sym) → Behind g γ s → code ≡ sym_spelled x → Behind g (x ∷ γ) r
