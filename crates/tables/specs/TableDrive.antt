-- The parser that is driven by a table: a silent run to its end, the run on to the next rule, and where it may come to. Assumes nothing: these are definitions.
use Rattle.std.specs.Prelude.{◌≡◌, ℕ, zero, suc, ◌-◌, List, [], ◌∷◌, length}
use Rattle.grammar.specs.Grammar.{Grammar}
use Rattle.parser.specs.Drive.{Ending, accepted, wrong, gave_out}
use Rattle.tables.specs.ByTable.{Stepped, shifted, reduced, fine, stuck, table_step}

-- A SILENT RUN, of so many steps at most, on a text of n signs: it is read, or wrong at a place, or the steps gave out
unfoldable pub on_stepped : ((sets left : List ℕ) → Ending) → ℕ → Stepped → Ending
on_stepped go p (shifted ss ρ) = go ss ρ
on_stepped go p (reduced r ss ρ) = go ss ρ
on_stepped go p fine = accepted
on_stepped go p stuck = wrong p

unfoldable pub table_run : ℕ → Grammar → List ℕ → ℕ → (sets left : List ℕ) → Ending
table_run zero g T n ss ρ = gave_out
table_run (suc k) g T n ss ρ = on_stepped (table_run k g T n) (n - length ρ) (table_step g T ss ρ)

unfoldable pub table_check : Grammar → (T ts : List ℕ) → ℕ → Ending
table_check g T ts steps = table_run steps g T (length ts) (0 ∷ []) ts

-- ON TO THE NEXT RULE that is reduced: which, and the sets and signs then
pub data NextRule : Type 0 where
  tells : ℕ → (sets left : List ℕ) → NextRule
  none : NextRule

unfoldable pub on_next : ((sets left : List ℕ) → NextRule) → Stepped → NextRule
on_next go (shifted ss ρ) = go ss ρ
on_next go (reduced r ss ρ) = tells r ss ρ
on_next go fine = none
on_next go stuck = none

unfoldable pub next_for : ℕ → Grammar → List ℕ → (sets left : List ℕ) → NextRule
next_for zero g T ss ρ = none
next_for (suc k) g T ss ρ = on_next (next_for k g T) (table_step g T ss ρ)

unfoldable pub next_rule_lem : Grammar → List ℕ → (sets left : List ℕ) → NextRule
next_rule_lem g T ss ρ = next_for (suc (length ρ)) g T ss ρ

-- from there on, these are the rules that are told one by one, and no more
unfoldable pub Tells : Grammar → List ℕ → (sets left : List ℕ) → List ℕ → Type 0
Tells g T ss ρ [] = next_rule_lem g T ss ρ ≡ none
Tells g T ss ρ (r ∷ rs) = (ss₁ ρ₁ : List ℕ) × (next_rule_lem g T ss ρ ≡ tells r ss₁ ρ₁) × Tells g T ss₁ ρ₁ rs

-- WHERE IT COMES TO, by some steps
pub data ComesTo (g : Grammar) (T : List ℕ) : (sets left sets₁ left₁ : List ℕ) → Type 0 where
  here : {ss ρ : List ℕ} → ComesTo g T ss ρ ss ρ
  over_shift : {ss ρ ss₂ ρ₂ : List ℕ} (ss₁ ρ₁ : List ℕ) → table_step g T ss ρ ≡ shifted ss₁ ρ₁ → ComesTo g T ss₁ ρ₁ ss₂ ρ₂ → ComesTo g T ss ρ ss₂ ρ₂
  over_reduce : {ss ρ ss₂ ρ₂ : List ℕ} (r : ℕ) (ss₁ ρ₁ : List ℕ) → table_step g T ss ρ ≡ reduced r ss₁ ρ₁ → ComesTo g T ss₁ ρ₁ ss₂ ρ₂ →
      ComesTo g T ss ρ ss₂ ρ₂
