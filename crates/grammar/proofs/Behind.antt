-- What stands behind the next symbol of a place is the row at the next place; and an array of answers, made place by place.
use Rattle.std.proofs.Common.{◌≡◌, ℕ, zero, suc, ◌+◌, ◌<◌, ◌≤◌, true, false, List, [], get_or, drop, Option, is_some, sym, ap, ◌∙◌, subst, inl, inr, add-one, arith}
use Rattle.std.specs.Array.{IsFromFnResultFrom}
use denote.Param.Members.{Mut, Called}
use Rattle.std.proofs.lemmas.Bool.{cases_eq}
use Rattle.grammar.specs.declared.table.Table.{Table}
use Rattle.grammar.specs.Grammar.{Sym}
use Rattle.grammar.specs.Places.{rest}
use Rattle.grammar.specs.declared.symbol.Symbol.{Symbol}
use Rattle.grammar.specs.Symbols.{first_of_row, told_next}
use Rattle.grammar.specs.Table.{ReadOff}
use Rattle.grammar.proofs.NextSymbols.{none_next, symbol_next}
use Rattle.grammar.proofs.Places.{place_next}

module _ {A : Type 0} {t : Table} (f : List Sym → A) (p : ℕ) (n : Option Symbol) (e : ReadOff t first_of_row p (told_next n)) (r : A) where
  pub behind_symbol : is_some n ≡ true → ReadOff t f (p + 1) r → ReadOff t (λ β. f (drop 1 β)) p r
  behind_symbol k read g s h =
      let x = symbol_next n (rest g p) (e g s h) k in
      let b = place_next g p x.0 x.1 x.2 in
      read g s (omega (arith, b.within)) ∙ ap f (ap (rest g) (add-one p) ∙ b.rests) ∙ ap (λ β. f (drop 1 β)) (sym x.2)

  pub behind_complete : is_some n ≡ false → r ≡ f [] → ReadOff t (λ β. f (drop 1 β)) p r
  behind_complete k q g s h = q ∙ ap (λ β. f (drop 1 β)) (sym (none_next n (rest g p) (e g s h) k))

-- calls at 0, 1, .. that change nothing of what the closure has, one for each element
pub made_each : {F B : Type 0} (m : Mut F (ℕ × Unit {0}) B) (P : ℕ → B → Type 0) (f : F) →
    ((i : ℕ) (y : B) (q : F) → Called m f (i, tt) y q → (q ≡ f) × P i y) → (ys : List B) (i n : ℕ) → IsFromFnResultFrom m f ys i n →
    (k : ℕ) → i ≤ k → k < i + n → (d : B) → P k (get_or ys k d)
made_each m P f h ys i zero r k l u d = absurd (omega arith)
made_each m P f h ys i (suc n) (q, y, at, call, later) k l u d =
    let here = h i y q call in
    elim (cases_eq k i) [
      | inl e ↦ subst (λ j. P j (get_or ys j d)) (sym e) (subst (P i) (sym (at.1 d)) here.1)
      | inr e ↦ made_each m P f h ys (i + 1) n (subst (λ p. IsFromFnResultFrom m p ys (i + 1) n) here.0 later) k (omega arith) (omega arith) d
    ]
