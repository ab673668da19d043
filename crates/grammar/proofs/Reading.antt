-- If one look ahead is enough, every text has one reading at most: two derivations of one form end with one rule at one place.
use Rattle.std.proofs.Common.{◌≡◌, ℕ, List, [], ◌∷◌, ◌++◌, length, sym, refl, ◌∙◌, inl, inr}
use mathlib.Core.Bool.{false≢true}
use mathlib.Core.List.{append_cancel_right}
use Rattle.std.proofs.lemmas.Bool.{cases_order, cases_eq, ne_eqb}
use Rattle.grammar.specs.Grammar.{every, backwards, Sym, name, Grammar, rule, sym_fits, signs, form, comes_by, Makes, Enough}
use Rattle.grammar.specs.Statements.{OneReading}
use Rattle.grammar.proofs.Lists.{never, nil_parts, same_split, backwards_backwards}
use Rattle.grammar.proofs.Derivations.{Step, last_step}
use Rattle.grammar.proofs.Sizes.{Sizes, sizes}
use Rattle.grammar.proofs.Forms.{form_fits}
use Rattle.grammar.proofs.Clashing.{EndsApart, steps_clash}

-- two steps to one form do not end apart
not_apart : (g : Grammar) → Enough g → (ds es : List ℕ) (m k f : List Sym) (r q : ℕ) → form g ds ≡ m ∷ [] → form g es ≡ k ∷ [] →
    (s : Step g r m f) (t : Step g q k f) (other : ℕ) → EndsApart g r q other s.front t.front → ⊥
unfolding Enough
not_apart g enough ds es m k f r q d e s t other apart = never (enough _ (steps_clash g ds es m k f f r q d e s t s.tail s.gives refl other apart))

same_step : (g : Grammar) → Enough g → (ds es : List ℕ) (m k f : List Sym) (r q : ℕ) → form g ds ≡ m ∷ [] → form g es ≡ k ∷ [] →
    Step g r m f → Step g q k f → (r ≡ q) × (m ≡ k)
same_step g enough ds es m k f r q d e s t = elim (cases_order (length (s.front ++ (rule g r).right)) (length (t.front ++ (rule g q).right))) [
  | inl l ↦ elim (cases_eq r q) [
    | inl p ↦
        let u = same_split (s.front ++ (rule g r).right) (t.front ++ (rule g q).right) (signs s.tail) (signs t.tail) (sym s.gives ∙ t.gives) l in
        let v : s.front ++ (rule g q).right ≡ t.front ++ (rule g q).right = rw p at u.0 in
        let w = append_cancel_right s.front t.front (rule g q).right v in
        let x = u.1 in
        let y : s.it ≡ t.it = cc in
        (p, cc)
    | inr p ↦ absurd (not_apart g enough ds es m k f r q d e s t q (inl (refl, ne_eqb q r (λ x. p (sym x)), sym l)))
  ]
  | inr (inl l) ↦ absurd (not_apart g enough ds es m k f r q d e s t 64 (inr (refl, l)))
  | inr (inr l) ↦ absurd (not_apart g enough es ds k m f q r e d t s 64 (inr (refl, l)))
]

-- no rule leads back to the beginning
none_back : (g : Grammar) → Sizes g → (r : ℕ) (rs : List ℕ) → form g (backwards (r ∷ rs)) ≡ (name 0 ∷ []) ∷ [] → ⊥
unfolding backwards every sym_fits
none_back g s r rs e = elim (form_fits g s (backwards rs ++ r ∷ []) (name 0 ∷ []) e) [
  | inl z ↦ let p = (nil_parts (backwards rs) (r ∷ []) z).1 in never (cc)
  | inr h ↦ false≢true h
]

same_rules : (g : Grammar) → Sizes g → Enough g → (rs qs : List ℕ) (f : List Sym) → form g (backwards rs) ≡ f ∷ [] → form g (backwards qs) ≡ f ∷ [] → rs ≡ qs
unfolding backwards comes_by
same_rules g h enough [] [] f d e = refl
same_rules g h enough [] (q ∷ qs) f d e = absurd (none_back g h q qs (e ∙ sym d))
same_rules g h enough (r ∷ rs) [] f d e = absurd (none_back g h r rs (d ∙ sym e))
same_rules g h enough (r ∷ rs) (q ∷ qs) f d e =
    let s = last_step g (backwards rs) r (name 0 ∷ []) f d in
    let t = last_step g (backwards qs) q (name 0 ∷ []) f e in
    let p = same_step g enough (backwards rs) (backwards qs) s.0 t.0 f r q s.1 t.1 s.2 t.2 in
    let x = same_rules g h enough rs qs s.0 s.1 (rw (← p.1) at t.1) in
    let y = p.0 in
    cc

pub one_reading_lem : OneReading
unfolding OneReading Makes
one_reading_lem g ds es ts a enough d e =
    let x = same_rules g (sizes g a) enough (backwards ds) (backwards es) (signs ts) (rw backwards_backwards d) (rw backwards_backwards e) in
    let y = backwards_backwards ds in
    let z = backwards_backwards es in
    cc
