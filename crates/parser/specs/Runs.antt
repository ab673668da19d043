-- Runs of an LR(1) parser: signs are shifted, rules reduced, by the items that are valid behind the stack. Assumes nothing: these are definitions.
use Rattle.std.specs.Prelude.{◌≡◌, ℕ, List, [], ◌∷◌, ◌++◌}
use Rattle.grammar.specs.Grammar.{Sym, sign, name, Grammar, rule}
use Rattle.items.specs.Items.{onto, lookahead, Valid}

-- a run from the stack γ before us ++ ρ to the stack γ' before ρ, on which the signs us are shifted and the rules rs reduced;
-- its moves are as many as both have
pub data Run (g : Grammar) : List Sym → List ℕ → List Sym → List ℕ → List ℕ → Type 0 where
  stay : {γ : List Sym} {ρ : List ℕ} → Run g γ [] γ ρ []
  shift : {γ γ' : List Sym} {us ρ rs : List ℕ} {t r : ℕ} {β : List Sym} {u : ℕ} → Valid g γ r (sign t ∷ β) u →
      Run g (sign t ∷ γ) us γ' ρ rs → Run g γ (t ∷ us) γ' ρ rs
  reduce : {γ γ' : List Sym} {us ρ rs : List ℕ} (r : ℕ) (a : List Sym) → Valid g γ r [] (lookahead (us ++ ρ)) → γ ≡ onto (rule g r).right a →
      Run g (name (rule g r).left ∷ a) us γ' ρ rs → Run g γ us γ' ρ (r ∷ rs)

-- the whole text is read, and the beginning's name stands for it
abbrev pub Accepts : Grammar → List ℕ → List ℕ → Type 0
Accepts g ts rs = Run g [] ts (name 0 ∷ []) [] rs
