-- What the codes of two rows say: the same symbol is next in both.
use Rattle.std.proofs.Common.{◌≡◌, ℕ, ◌-◌, ◌<◌, true, List, ◌∷◌, sym, ◌∙◌, subst, inl, inr, arith}
use Rattle.grammar.specs.Grammar.{every, Sym, sign, name, sym_fits, Grammar}
use Rattle.grammar.specs.Places.{next_code, places}
use Rattle.grammar.specs.Table.{Shows}
use Rattle.grammar.specs.declared.table.Table.{Table}
use Rattle.grammar.proofs.Lists.{nil_not_cons}
use Rattle.grammar.proofs.Places.{code_range, code_sign, code_name, code_complete, places_bound}

pub same_next : (α β : List Sym) → every sym_fits α ≡ true → every sym_fits β ≡ true → next_code α ≡ next_code β → next_code α < 64 →
    (x : Sym) × (γ δ : List Sym) × (α ≡ x ∷ γ) × (β ≡ x ∷ δ)
same_next α β fα fβ e h =
    elim (code_range α fα) [
      | inl k ↦
          let a = code_sign α (omega arith) in
          let b = code_sign β (omega arith) in
          (sign (next_code α), a.0, b.0, a.1, subst (λ c. β ≡ sign c ∷ b.0) (sym e) b.1)
      | inr (inl k) ↦
          let a = code_name α fα (omega (arith, k.0)) h in
          let b = code_name β fβ (omega (arith, k.0)) (omega arith) in
          (name (next_code α - 32), a.0, b.0, a.1, subst (λ c. β ≡ name (c - 32) ∷ b.0) (sym e) b.1)
      | inr (inr k) ↦ absurd (omega arith)
    ]

pub code_below : (α : List Sym) (x : Sym) (β : List Sym) → every sym_fits α ≡ true → α ≡ x ∷ β → next_code α < 64
code_below α x β f e =
    elim (code_range α f) [
      | inl k ↦ omega arith
      | inr (inl k) ↦ k.1
      | inr (inr k) ↦ absurd (nil_not_cons (sym (code_complete α f k) ∙ e))
    ]

-- a place of a grammar that a table shows has room in the table
pub place_small : {t : Table} {g : Grammar} {p : ℕ} → Shows t g → p < places g → p < 192
place_small {g = g} s h = omega (arith, places_bound g s.fits)
