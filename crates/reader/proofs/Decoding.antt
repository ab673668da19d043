-- The decoder is right: what it gives is what the bytes spell, and it gives whatever they spell.
use Rattle.std.proofs.Common.{◌≡◌, ℕ, ◌<◌, ◌≤◌, Bool, true, false, eqb, List, [], ◌∷◌, length, get_or, drop, sym, refl, ap, ◌∙◌, subst, arith}
use mathlib.Core.Bool.{false≢true}
use Rattle.std.proofs.lemmas.Bool.{eqb-true, ne_eqb}
use Rattle.grammar.specs.Grammar.{pick}
use Rattle.grammar.specs.Spelling.{grammar_ok, grammar_of}
use Rattle.grammar.proofs.Spelled.{grammar_said, grammar_back}
use Rattle.reader.specs.House.{Command, load, read_text, what_next, a_text, spelled, fits}
use Rattle.reader.specs.Promise.{Said, Never, SpelledOnce}
use Rattle.reader.specs.Decode.{spells, could_be, decode}

spells_said : (k : ℕ) (bs : List ℕ) (b1 b2 b3 : Bool) → eqb k 1 ≡ b1 → eqb k 2 ≡ b2 → eqb k 3 ≡ b3 →
    pick b1 (grammar_ok bs) (pick b2 (a_text bs) (pick b3 (a_text bs) false)) ≡ true →
    Said (k ∷ bs) (pick b1 (load (grammar_of bs)) (pick b2 (read_text bs) (what_next bs)))
unfolding Said spelled fits
spells_said k bs true b2 b3 e1 e2 e3 h = rw (eqb-true k 1 e1) ((ap (λ (l : List ℕ). 1 ∷ l) (grammar_said bs h).1, (grammar_said bs h).0))
spells_said k bs false true b3 e1 e2 e3 h = (rw (eqb-true k 2 e2), h)
spells_said k bs false false true e1 e2 e3 h = (rw (eqb-true k 3 e3), h)
spells_said k bs false false false e1 e2 e3 h = absurd (false≢true h)

said_could_be : (t : List ℕ) → spells t ≡ true → Said t (could_be t)
unfolding spells could_be
said_could_be [] h = absurd (false≢true h)
said_could_be (k ∷ bs) h = spells_said k bs (eqb k 1) (eqb k 2) (eqb k 3) refl refl refl h

back : (a : Command) → fits a ≡ true → (spells (spelled a) ≡ true) × (could_be (spelled a) ≡ a)
unfolding spells could_be spelled fits
back (load g) h = let b = grammar_back g h in (b.0, ap load b.1)
back (read_text ts) h = (h, refl)
back (what_next ts) h = (h, refl)

nil_cons : (a : Command) (as₁ : List Command) → [] ≡ a ∷ as₁ → ⊥
nil_cons a as₁ e = let z : ◌≡◌ {A = ℕ} 0 1 = cc in omega arith

pub decode_of : (t : List ℕ) (a : Command) → Said t a → decode t ≡ a ∷ []
unfolding decode Said
decode_of t a h =
    let b = back a h.1 in
    let s : spells t ≡ true = ap spells (sym h.0) ∙ b.0 in
    let c : could_be t ≡ a = ap could_be (sym h.0) ∙ b.1 in
    rw (s, c)

decode_by : (t : List ℕ) (b : Bool) (a : Command) (as₁ : List Command) → spells t ≡ b → pick b (could_be t ∷ []) [] ≡ a ∷ as₁ → Said t a × (as₁ ≡ [])
decode_by t true a as₁ s e =
    let c : could_be t ≡ a = cc in
    (subst (λ (x : Command). Said t x) c (said_could_be t s), (cc))
decode_by t false a as₁ s e = absurd (nil_cons a as₁ e)

pub said_of : (t : List ℕ) (a : Command) (as₁ : List Command) → decode t ≡ a ∷ as₁ → Said t a × (as₁ ≡ [])
unfolding decode
said_of t a as₁ e = decode_by t (spells t) a as₁ refl e

pub none_said : (t : List ℕ) → decode t ≡ [] → (a : Command) → Said t a → Never
none_said t e a h = absurd (nil_cons a [] (sym e ∙ decode_of t a h))

pub spelled_once : SpelledOnce
unfolding SpelledOnce Said
spelled_once a c fa fc e =
    let da = decode_of (spelled a) a (refl, fa) in
    let dc = decode_of (spelled a) c (sym e, fc) in
    cc

-- decoding, by the first byte and the bytes behind it
pub decode_none : (xs : List ℕ) → length xs < 1 → decode xs ≡ []
unfolding decode spells
decode_none [] h = refl
decode_none (x ∷ xs) h = absurd (omega arith)

pub cons_of : (xs body : List ℕ) (k : ℕ) → 1 ≤ length xs → body ≡ drop 1 xs → get_or xs 0 0 ≡ k → xs ≡ k ∷ body
cons_of [] body k long cut e = absurd (omega arith)
cons_of (x ∷ xs) body k long cut e = cc

module _ (xs body : List ℕ) (long : 1 ≤ length xs) (cut : body ≡ drop 1 xs) where
  pub decode_load : get_or xs 0 0 ≡ 1 → grammar_ok body ≡ true → (decode xs ≡ load (grammar_of body) ∷ []) × (xs ≡ 1 ∷ body) × (grammar_ok body ≡ true)
  unfolding decode spells could_be
  decode_load e h = let s = cons_of xs body 1 long cut e in (rw (s, h), s, h)

  pub decode_read : get_or xs 0 0 ≡ 2 → a_text body ≡ true → (decode xs ≡ read_text body ∷ []) × (xs ≡ 2 ∷ body) × (a_text body ≡ true)
  unfolding decode spells could_be
  decode_read e h = let s = cons_of xs body 2 long cut e in (rw (s, h), s, h)

  pub decode_next : get_or xs 0 0 ≡ 3 → a_text body ≡ true → (decode xs ≡ what_next body ∷ []) × (xs ≡ 3 ∷ body)
  unfolding decode spells could_be
  decode_next e h = let s = cons_of xs body 3 long cut e in (rw (s, h), s)

  pub decode_no_load : get_or xs 0 0 ≡ 1 → grammar_ok body ≡ false → decode xs ≡ []
  unfolding decode spells
  decode_no_load e h = let s = cons_of xs body 1 long cut e in rw (s, h)

  pub decode_no_read : get_or xs 0 0 ≡ 2 → a_text body ≡ false → decode xs ≡ []
  unfolding decode spells
  decode_no_read e h = let s = cons_of xs body 2 long cut e in rw (s, h)

  pub decode_no_next : get_or xs 0 0 ≡ 3 → a_text body ≡ false → decode xs ≡ []
  unfolding decode spells
  decode_no_next e h = let s = cons_of xs body 3 long cut e in rw (s, h)

  pub decode_other : (get_or xs 0 0 ≡ 1 → ⊥) → (get_or xs 0 0 ≡ 2 → ⊥) → (get_or xs 0 0 ≡ 3 → ⊥) → decode xs ≡ []
  unfolding decode spells
  decode_other a b c = let s = cons_of xs body (get_or xs 0 0) long cut refl in rw s (rw (ne_eqb (get_or xs 0 0) 1 a, ne_eqb (get_or xs 0 0) 2 b, ne_eqb (get_or xs 0 0) 3 c))
