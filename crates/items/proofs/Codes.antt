-- What a table that shows a grammar says of the symbol that is next at a place.
use Rattle.std.proofs.Common.{◌≡◌, ℕ, ◌+◌, ◌<◌, Bool, true, false, not, ◌&&◌, eqb, ltb, leb, List, [], ◌∷◌, length, sym, refl, ap, ◌∙◌, ⊎_elim, arith, ◌≤◌, Some, None, Option, is_some}
use mathlib.Core.Bool.{false≢true}
use Rattle.std.proofs.lemmas.Bool.{and_from, and_parts, cases_eq, cases_lt, le-ltb, eq-eqb, eqb-true, le-leb, lt-ltb, ne_eqb, ltb-true}
use Rattle.words.specs.Rows.{or_at}
use Rattle.words.proofs.RowLaws.{or_at_none}
use Rattle.grammar.specs.declared.symbol.Symbol.{Symbol}
use Rattle.grammar.specs.declared.symbol.Symbol.TheVariants.{Sign, Name}
use Rattle.grammar.specs.declared.table.Table.{Table}
use Rattle.grammar.specs.contracts.symbol.SymbolPartialEq.TheImpl.{eq-value}
use Rattle.grammar.specs.Symbols.{first_of_row, told_next}
use Rattle.grammar.proofs.Lists.{never}
use Rattle.std.specs.Option.{option_eq}
use Rattle.grammar.specs.Grammar.{pick, every, Sym, sign, name, Grammar, rule, sym_fits}
use Rattle.grammar.specs.Spelling.{sym_spelled}
use Rattle.grammar.specs.Places.{places, rest, first_place_lem, next_code}
use Rattle.grammar.specs.Rows.{begins_with}
use Rattle.grammar.specs.Table.{Shows, symbol_in, left_in}
use Rattle.grammar.proofs.Places.{rest_fits}
use Rattle.grammar.proofs.NextSymbols.{none_next, code_none, code_next_sign, code_next_name}
use Rattle.grammar.proofs.Shown.{symbol_shown}
use Rattle.grammar.proofs.Sizes.{sizes}
use Rattle.items.specs.Sets.{begin_rule}

-- the byte of a row says whether it begins with a name
code_begins : (n : ℕ) (β : List Sym) → n < 32 → every sym_fits β ≡ true → eqb (next_code β) (32 + n) ≡ begins_with n β
unfolding next_code begins_with sym_spelled every sym_fits
code_begins n [] h f = ne_eqb 64 (32 + n) (λ e. omega arith)
code_begins n (sign t ∷ β) h f =
    let k : t < 24 = ltb-true t 24 (and_parts (ltb t 24) (every sym_fits β) f).0 in ne_eqb t (32 + n) (λ e. omega arith)
code_begins n (name m ∷ β) h f =
    ⊎_elim (λ e. eq-eqb (32 + m) (32 + n) (omega arith) ∙ sym (eq-eqb n m e)) (λ d. ne_eqb (32 + m) (32 + n) (λ e. d (omega arith)) ∙ sym (ne_eqb n m d))
    (cases_eq n m)

module _ {t : Table} {g : Grammar} (s : Shows t g) where
  pub next_shown : (p k x y : ℕ) → p < places g → k < length g → x ≡ symbol_in t p → y ≡ left_in t k →
      eqb x (32 + y) ≡ begins_with (rule g k).left (rest g p)
  next_shown p k x y h l e d =
      let a : x ≡ next_code (rest g p) = e ∙ symbol_shown s p h in
      let b : y ≡ (rule g k).left = d ∙ s.holds.lefts k l in
      ap (λ z. eqb z (32 + y)) a ∙ ap (λ z. eqb (next_code (rest g p)) (32 + z)) b
      ∙ code_begins (rule g k).left (rest g p) ((sizes g s.fits).left_below k l) (rest_fits g p s.fits)

  -- where nothing is ahead or no name is next, no rule is begun
  pub begun_none : (p m k : ℕ) (u : List ℕ) → p < places g → k < length g → false ≡ (not (eqb m 0) && (leb 32 (symbol_in t p) && ltb (symbol_in t p) 64)) →
      begin_rule g p m k u ≡ u
  begun_none p m k u h l e = go (eqb m 0) refl (begins_with (rule g k).left (rest g p)) refl
    where
      x : ℕ
      x = symbol_in t p

      named : begins_with (rule g k).left (rest g p) ≡ true → (leb 32 x && ltb x 64) ≡ true
      named b =
          let q : x ≡ 32 + (rule g k).left = eqb-true x (32 + (rule g k).left) (ap (λ z. eqb x (32 + z)) (sym (s.holds.lefts k l)) ∙ next_shown p k x _ h l refl refl ∙ b) in
          let n = (sizes g s.fits).left_below k l in
          and_from _ _ (le-leb 32 x (omega arith)) (lt-ltb x 64 (omega arith))

      go : (a : Bool) → eqb m 0 ≡ a → (b : Bool) → begins_with (rule g k).left (rest g p) ≡ b → pick b (or_at u (first_place_lem g k) m) u ≡ u
      go true z b c = let n : m ≡ 0 = eqb-true m 0 z in go_zero b (ap (or_at u (first_place_lem g k)) n ∙ or_at_none u (first_place_lem g k))
        where
          go_zero : (b : Bool) → or_at u (first_place_lem g k) m ≡ u → pick b (or_at u (first_place_lem g k) m) u ≡ u
          go_zero true i = i
          go_zero false i = refl
      go false z true c = absurd (false≢true (e ∙ rw z (named c)))
      go false z false c = refl

  -- whether the byte that the table has is this one
  pub code_yes : (c p x : ℕ) → p < places g → x ≡ symbol_in t p → x ≡ c → eqb (next_code (rest g p)) c ≡ true
  code_yes c p x h e d = eq-eqb _ _ (sym (e ∙ symbol_shown s p h) ∙ d)

  pub code_no : (c p x : ℕ) → p < places g → x ≡ symbol_in t p → (x ≡ c → ⊥) → eqb (next_code (rest g p)) c ≡ false
  code_no c p x h e d = ne_eqb _ _ (λ f. d (e ∙ symbol_shown s p h ∙ f))

-- ---- what the symbol that code reads there says

swap_eqb : (a b : ℕ) → eqb a b ≡ eqb b a
swap_eqb a b =
    ⊎_elim (λ e. eq-eqb a b e ∙ sym (eq-eqb b a (sym e))) (λ d. ne_eqb a b d ∙ sym (ne_eqb b a (λ e. d (sym e)))) (cases_eq a b)

-- whether it is this name
pub begins_next : (n : Option Symbol) (k : ℕ) (β : List Sym) → told_next n ≡ first_of_row β → option_eq eq-value.it n (Some (Name k)) ≡ begins_with k β
unfolding first_of_row begins_with
begins_next None k [] e = refl
begins_next None k (x ∷ β) e = never (cc)
begins_next (Some y) k [] e = never (cc)
begins_next (Some (Sign t)) k (sign u ∷ β) e = refl
begins_next (Some (Sign t)) k (name u ∷ β) e = never (cc)
begins_next (Some (Name m)) k (sign u ∷ β) e = never (cc)
begins_next (Some (Name m)) k (name u ∷ β) e = let d : m ≡ u = cc in swap_eqb m k ∙ ap (eqb k) d

-- whether it is this sign, and b
pub past_signs : (x a : ℕ) (b : Bool) → 24 ≤ x → (ltb a 24 && (eqb x a && b)) ≡ false
past_signs x a b h =
    ⊎_elim (λ l. let n : eqb x a ≡ false = ne_eqb x a (λ e. omega arith) in rw (lt-ltb a 24 l, n) refl) (λ l. rw (le-ltb a 24 l) refl)
    (cases_lt a 24)

sign_at : (x a : ℕ) (b : Bool) → x < 24 → (ltb a 24 && (eqb x a && b)) ≡ (eqb x a && b)
sign_at x a b h =
    ⊎_elim (λ l. rw (lt-ltb a 24 l) refl) (λ l. let n : eqb x a ≡ false = ne_eqb x a (λ e. omega arith) in rw (le-ltb a 24 l, n) refl)
    (cases_lt a 24)

pub sign_next : (n : Option Symbol) (a : ℕ) (b : Bool) (β : List Sym) → told_next n ≡ first_of_row β → every sym_fits β ≡ true →
    (option_eq eq-value.it n (Some (Sign a)) && b) ≡ (ltb a 24 && (eqb (next_code β) a && b))
sign_next None a b β e h = sym (rw (code_none β e) (past_signs 64 a b (omega arith)))
sign_next (Some (Sign t)) a b β e h = let d = code_next_sign β t e h in sym (rw d.0 (sign_at t a b d.1))
sign_next (Some (Name m)) a b β e h = let d = code_next_name β m e h in sym (rw d.0 (past_signs (32 + m) a b (omega arith)))

-- a complete place has none
pub complete_next : (n : Option Symbol) (b c : Bool) (β : List Sym) → told_next n ≡ first_of_row β → is_some n ≡ false → c ≡ b → c ≡ (eqb (next_code β) 64 && b)
unfolding next_code
complete_next n b c β e k d = let z = none_next n β e k in rw z d
