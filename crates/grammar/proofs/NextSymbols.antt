-- What the symbol that code reads at a place says of the row there, and of its byte.
use Rattle.std.proofs.Common.{◌≡◌, ℕ, ◌+◌, ◌<◌, true, false, ltb, leb, List, [], ◌∷◌, Some, None, Option, is_some, sym, refl, ap, ◌∙◌, arith, Bool, not, eqb, ⊎_elim}
use Rattle.std.specs.Option.{option_eq}
use mathlib.Core.Bool.{false≢true}
use Rattle.std.proofs.lemmas.Bool.{and_parts, cases_eq, eq-eqb, lt-ltb, ltb-true, ne_eqb}
use Rattle.grammar.specs.declared.symbol.Symbol.{Symbol}
use Rattle.grammar.specs.declared.symbol.Symbol.TheVariants.{Sign, Name}
use Rattle.grammar.specs.declared.table.Table.{Table}
use Rattle.grammar.specs.contracts.symbol.SymbolPartialEq.TheImpl.{eq-value}
use Rattle.grammar.specs.Grammar.{every, Sym, sign, name, Grammar, sym_fits}
use Rattle.grammar.specs.Spelling.{sym_spelled}
use Rattle.grammar.specs.Places.{places, rest, next_code}
use Rattle.grammar.specs.Symbols.{first_of_row, next_of, told_next}
use Rattle.grammar.specs.Table.{Shows, symbol_in}
use Rattle.grammar.proofs.Lists.{never}
use Rattle.grammar.proofs.Places.{rest_fits}
use Rattle.grammar.proofs.Shown.{symbol_shown}
use Rattle.grammar.proofs.Slices.{code_below}
use Rattle.grammar.proofs.Spelled.{sym_of_spelled}

first_of_code : (β : List Sym) → every sym_fits β ≡ true → next_of (next_code β) ≡ first_of_row β
unfolding next_code first_of_row every
first_of_code [] h = refl
first_of_code (x ∷ β) h =
    rw (lt-ltb (sym_spelled x) 64 (code_below x β h)) (ap (λ y. Some y) (sym_of_spelled x (and_parts (sym_fits x) (every sym_fits β) h).0))

pub first_shown : {t : Table} {g : Grammar} → Shows t g → (p : ℕ) → p < places g → next_of (symbol_in t p) ≡ first_of_row (rest g p)
first_shown {g = g} s p h = ap next_of (symbol_shown s p h) ∙ first_of_code (rest g p) (rest_fits g p s.fits)

-- where there is none the row is complete, and else it begins with it
pub none_next : (n : Option Symbol) (β : List Sym) → told_next n ≡ first_of_row β → is_some n ≡ false → β ≡ []
unfolding first_of_row
none_next n [] e k = refl
none_next None (x ∷ β) e k = never (cc)
none_next (Some y) (x ∷ β) e k = absurd (false≢true (sym k))

pub symbol_next : (n : Option Symbol) (β : List Sym) → told_next n ≡ first_of_row β → is_some n ≡ true → (x : Sym) × (γ : List Sym) × (β ≡ x ∷ γ)
unfolding first_of_row
symbol_next None β e k = absurd (false≢true k)
symbol_next (Some y) [] e k = never (cc)
symbol_next (Some y) (x ∷ β) e k = (x, β, refl)

-- the row's byte, and that the symbol fits
abbrev code_of_first : Option Sym → ℕ
code_of_first None = 64
code_of_first (Some x) = sym_spelled x

next_first : (β : List Sym) → next_code β ≡ code_of_first (first_of_row β)
unfolding next_code first_of_row
next_first [] = refl
next_first (x ∷ β) = refl

first_fits : (β : List Sym) → every sym_fits β ≡ true → (x : Sym) → Some x ≡ first_of_row β → sym_fits x ≡ true
unfolding every first_of_row
first_fits [] h x e = never (cc)
first_fits (y ∷ β) h x e = let k = (and_parts (sym_fits y) (every sym_fits β) h).0 in cc

module _ (β : List Sym) where
  pub code_none : told_next None ≡ first_of_row β → next_code β ≡ 64
  code_none e = next_first β ∙ ap code_of_first (sym e)

  pub code_next_sign : (n : ℕ) → told_next (Some (Sign n)) ≡ first_of_row β → every sym_fits β ≡ true → (next_code β ≡ n) × (n < 24)
  unfolding sym_spelled sym_fits
  code_next_sign n e h = (next_first β ∙ ap code_of_first (sym e), ltb-true n 24 (first_fits β h (sign n) e))

  pub code_next_name : (n : ℕ) → told_next (Some (Name n)) ≡ first_of_row β → every sym_fits β ≡ true → (next_code β ≡ 32 + n) × (n < 32)
  unfolding sym_spelled sym_fits
  code_next_name n e h =
      (next_first β ∙ ap code_of_first (sym e), ltb-true n 32 (and_parts (leb 1 n) (ltb n 32) (first_fits β h (name n) e)).1)

-- ---- of two places, and whether one is complete

abbrev code_told : Option Symbol → ℕ
code_told None = 64
code_told (Some (Sign n)) = n
code_told (Some (Name n)) = 32 + n

code_next : (n : Option Symbol) (β : List Sym) → told_next n ≡ first_of_row β → next_code β ≡ code_told n
unfolding sym_spelled
code_next None β e = code_none β e
code_next (Some (Sign t)) β e = next_first β ∙ ap code_of_first (sym e)
code_next (Some (Name m)) β e = next_first β ∙ ap code_of_first (sym e)

pub code_complete_next : (n : Option Symbol) (b : Bool) (β : List Sym) → told_next n ≡ first_of_row β → every sym_fits β ≡ true → is_some n ≡ not b →
    eqb (next_code β) 64 ≡ b
code_complete_next None true β e h k = eq-eqb (next_code β) 64 (code_none β e)
code_complete_next None false β e h k = absurd (false≢true k)
code_complete_next (Some y) true β e h k = absurd (false≢true (sym k))
code_complete_next (Some (Sign t)) false β e h k = let d = code_next_sign β t e h in ne_eqb (next_code β) 64 (λ i. omega (arith, d.0, d.1))
code_complete_next (Some (Name m)) false β e h k = let d = code_next_name β m e h in ne_eqb (next_code β) 64 (λ i. omega (arith, d.0, d.1))

more_eqb : (m k : ℕ) → eqb m k ≡ eqb (32 + m) (32 + k)
more_eqb m k =
    ⊎_elim (λ e. eq-eqb m k e ∙ sym (eq-eqb (32 + m) (32 + k) (omega arith))) (λ d. ne_eqb m k d ∙ sym (ne_eqb (32 + m) (32 + k) (λ e. d (omega arith))))
    (cases_eq m k)

-- the same symbol is next at both, or none at both, if it is the same byte
pub same_next_code : (n m : Option Symbol) (α β : List Sym) → told_next n ≡ first_of_row α → told_next m ≡ first_of_row β → every sym_fits α ≡ true →
    every sym_fits β ≡ true → option_eq eq-value.it n m ≡ eqb (next_code α) (next_code β)
same_next_code n m α β d e h k = go n m d e ∙ sym (rw (code_next n α d, code_next m β e) refl)
  where
    go : (n m : Option Symbol) → told_next n ≡ first_of_row α → told_next m ≡ first_of_row β → option_eq eq-value.it n m ≡ eqb (code_told n) (code_told m)
    go None None d e = refl
    go None (Some (Sign u)) d e = let q = code_next_sign β u e k in sym (ne_eqb 64 u (λ i. omega (arith, q.1)))
    go None (Some (Name u)) d e = let q = code_next_name β u e k in sym (ne_eqb 64 (32 + u) (λ i. omega (arith, q.1)))
    go (Some (Sign t)) None d e = let p = code_next_sign α t d h in sym (ne_eqb t 64 (λ i. omega (arith, p.1)))
    go (Some (Name t)) None d e = let p = code_next_name α t d h in sym (ne_eqb (32 + t) 64 (λ i. omega (arith, p.1)))
    go (Some (Sign t)) (Some (Sign u)) d e = refl
    go (Some (Sign t)) (Some (Name u)) d e = let p = code_next_sign α t d h in sym (ne_eqb t (32 + u) (λ i. omega (arith, p.1)))
    go (Some (Name t)) (Some (Sign u)) d e = let q = code_next_sign β u e k in sym (ne_eqb (32 + t) u (λ i. omega (arith, q.1)))
    go (Some (Name t)) (Some (Name u)) d e = more_eqb t u

pub code_none_next : (n : Option Symbol) (β : List Sym) → told_next n ≡ first_of_row β → is_some n ≡ false → next_code β ≡ 64
code_none_next None β e k = code_none β e
code_none_next (Some y) β e k = absurd (false≢true (sym k))
