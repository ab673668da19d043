-- Where every name is of use, every valid item belongs to a text.
use Rattle.std.proofs.Common.{ℕ, List, [], ◌∷◌, ◌++◌, refl, subst}
use Rattle.grammar.specs.Grammar.{Sym, Grammar, AllUseful}
use Rattle.grammar.specs.Trees.{Yields, empty}
use Rattle.grammar.proofs.Trees.{yields_split, yields_append}
use Rattle.grammar.proofs.Sizes.{Sizes}
use Rattle.items.specs.Items.{onto, Valid, start, advance, close}
use Rattle.items.specs.Statements.{InText}
use Rattle.items.proofs.Stacks.{onto_append}
use Rattle.items.proofs.Items.{to_come}
use Rattle.items.proofs.Sound.{sound_text}

-- something comes of a stack that an item is valid behind
pub stack_comes : {g : Grammar} → AllUseful g → {γ : List Sym} {r : ℕ} {β : List Sym} {t : ℕ} → Valid g γ r β t → (u : List ℕ) × (rs : List ℕ) × Yields g (onto γ []) u rs
stack_comes useful start = ([], [], empty)
stack_comes {g} useful (advance {γ = γ} {x = x} {β = β} v) =
    let p = stack_comes useful v in
    let d = to_come useful v in
    let k = yields_split (x ∷ []) {b = β} refl d.2 in
    (p.0 ++ k.0, p.1 ++ k.2, subst (λ f. Yields g f (p.0 ++ k.0) (p.1 ++ k.2)) (onto_append γ [] (x ∷ [])) (yields_append p.2 k.4))
stack_comes useful (close q lt l v D) = stack_comes useful v

pub item_in_text : (g : Grammar) → Sizes g → AllUseful g → {γ : List Sym} {r : ℕ} {β : List Sym} {t : ℕ} → Valid g γ r β t → InText g γ β t
item_in_text g s useful v =
    let p = stack_comes useful v in
    let d = to_come useful v in
    let k = sound_text g s v p.2 d.2 in
    record {
      read = p.0;
      next = d.0;
      behind = k.0;
      stack_rules = p.1;
      next_rules = d.1;
      rules = k.1;
      stack_yields = p.2;
      next_yields = d.2;
      ahead = k.2;
      makes = k.3;
    }
