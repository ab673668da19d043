-- The row that comes at a place, as a slice of a table's symbols: those up to the end of its rule.
use Rattle.std.proofs.Common.{◌≡◌, ℕ, ◌+◌, ◌-◌, ◌<◌, true, List, [], ◌∷◌, length, take, drop, refl, ap, ◌∙◌, subst, inl, inr, add-one, arith}
use Rattle.std.proofs.lemmas.List.{drop_more}
use Rattle.grammar.specs.declared.table.Table.{Table}
use Rattle.grammar.specs.Grammar.{every, each, Sym, Grammar, sym_fits}
use Rattle.grammar.specs.Spelling.{sym_spelled}
use Rattle.grammar.specs.Places.{places, rest, next_code}
use Rattle.grammar.specs.Table.{Shows}
use Rattle.grammar.proofs.Lists.{never}
use Rattle.grammar.proofs.Places.{place_next, places_bound, rest_fits, code_range, code_complete}

pub code_below : (x : Sym) (β : List Sym) → every sym_fits (x ∷ β) ≡ true → next_code (x ∷ β) < 64
code_below x β h =
    elim (code_range (x ∷ β) h) [ inl l ↦ omega arith | inr (inl l) ↦ l.1 | inr (inr l) ↦ let e = code_complete (x ∷ β) h l in never (cc) ]

module _ {t : Table} {g : Grammar} (s : Shows t g) (long : length t.symbols ≡ 192) where
  at_place : (p : ℕ) (β : List Sym) → p < places g → rest g p ≡ β → drop p t.symbols ≡ next_code β ∷ drop (p + 1) t.symbols
  at_place p β h e =
      let k : p < length t.symbols = omega (arith, places_bound g s.fits) in
      drop_more t.symbols p 0 k ∙ ap (λ x. x ∷ drop (p + 1) t.symbols) (s.holds.symbols p h ∙ ap next_code e)

  pub row_cut : (β : List Sym) (p : ℕ) → p < places g → rest g p ≡ β → take (length β) (drop p t.symbols) ≡ each sym_spelled β
  unfolding next_code each
  row_cut [] p h e = refl
  row_cut (x ∷ β) p h e =
      let n = place_next g p x β e in
      let q : rest g (p + 1) ≡ β = ap (rest g) (add-one p) ∙ n.rests in
      let k : p + 1 < places g = omega (arith, n.within) in
      ap (take (length (x ∷ β))) (at_place p (x ∷ β) h e) ∙ ap (λ xs. sym_spelled x ∷ xs) (row_cut β (p + 1) k q)

  -- as the code reads it
  pub row_read : (p q e : ℕ) → p < places g → q ≡ p → e ≡ p + length (rest g p) → take (e - q) (drop q t.symbols) ≡ each sym_spelled (rest g p)
  row_read p q e h same ends =
      let n : e - q ≡ length (rest g p) = omega arith in
      ap (λ i. take (e - q) (drop i t.symbols)) same ∙ ap (λ n. take n (drop p t.symbols)) n ∙ row_cut (rest g p) p h refl
