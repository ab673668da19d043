-- A grammar that is loaded, as it is told: a name of no use, a clash, or done.
use Rattle.std.proofs.Common.{◌≡◌, ℕ, ◌+◌, ◌*◌, ◌≤◌, true, false, List, [], ◌∷◌, ◌++◌, length, drop, set, sym, refl, ap, ◌∙◌, subst, ap₂, arith, length-append}
use Rattle.grammar.specs.Grammar.{Grammar, Clash, added_up}
use Rattle.grammar.specs.Spelling.{sym_spelled, flat, rule_spelled, grammar_spelled, grammar_ok, grammar_of, Spells}
use Rattle.grammar.proofs.Spelled.{grammar_said, length_each}
use Rattle.grammar.proofs.Sizes.{sizes}
use Rattle.grammar.specs.Analysis.{useless}
use Rattle.conflicts.specs.Pairs.{clash_of}
use Rattle.reader.specs.declared.Told.{Told}
use Rattle.reader.specs.declared.Told.TheVariants.{Done}
use Rattle.reader.specs.Memory.{with_phase, cleared, with_spelling}
use Rattle.reader.specs.Machine.{on_useless, on_clash, loads, refuses}
use Rattle.reader.specs.Entry.{StepTold, ActTold}

pub set_one : (out : List ℕ) (x : ℕ) → 1 ≤ length out → set out 0 x ≡ (x ∷ []) ++ drop 1 out
set_one [] x h = absurd (omega arith)
set_one (o ∷ out) x h = refl

module _ (pairs size : ℕ) (m out : List ℕ) (g : Grammar) (r : Told) (m₂ out₂ : List ℕ) where
  pub useless_told : (n : ℕ) (row : List ℕ) → useless g ≡ n ∷ [] → row ≡ n ∷ [] → StepTold (refuses m 6 row) r out m₂ out₂ →
      StepTold (loads pairs size m g) r out m₂ out₂
  unfolding on_useless
  useless_told n row e is s = rw e (subst (λ (x : List ℕ). StepTold (refuses m 6 x) r out m₂ out₂) is s)

  module _ (m₁ : List ℕ) (none : useless g ≡ []) (same : m₁ ≡ cleared pairs size m) where
    pub clash_told : (c : Clash) (row : List ℕ) → clash_of g ≡ c ∷ [] → row ≡ c.due ∷ c.other ∷ c.ahead ∷ [] → StepTold (refuses m₁ 5 row) r out m₂ out₂ →
        StepTold (loads pairs size m g) r out m₂ out₂
    unfolding on_useless on_clash
    clash_told c row e is s =
        rw (none, e) (
        subst (λ (x : List ℕ). StepTold (refuses x 5 (c.due ∷ c.other ∷ c.ahead ∷ [])) r out m₂ out₂) same
        (subst (λ (x : List ℕ). StepTold (refuses m₁ 5 x) r out m₂ out₂) is s)
        )

    pub loaded_told : (bs : List ℕ) → clash_of g ≡ [] → grammar_spelled g ≡ bs → r ≡ Done → m₂ ≡ with_phase 0 (with_spelling bs m₁) → out₂ ≡ out →
        StepTold (loads pairs size m g) r out m₂ out₂
    unfolding on_useless on_clash ActTold
    loaded_told bs e b is k o = rw (none, e) (k ∙ ap₂ (λ (x y : List ℕ). with_phase 0 (with_spelling x y)) (sym b) same, (is, o))

-- what spells a grammar is not refused, and is short
pub not_spelled : (bs : List ℕ) → grammar_ok bs ≡ true → Spells false bs → ⊥
unfolding Spells
not_spelled bs h s = let p = grammar_said bs h in let z = s (grammar_of bs) p.0 p.1 in omega arith

flat_length : (g : Grammar) → length (flat rule_spelled g) ≡ 2 * length g + added_up (λ r. length r.right) g
unfolding flat added_up
flat_length [] = refl
flat_length (r ∷ g) =
    let e = length-append (rule_spelled r) (flat rule_spelled g) in
    let h = flat_length g in
    let k = length_each sym_spelled r.right in
    omega (arith, e, h, k)

pub spelling_short : (bs : List ℕ) → grammar_ok bs ≡ true → length bs ≤ 257
spelling_short bs h =
    let p = grammar_said bs h in
    let s = sizes (grammar_of bs) p.0 in
    let e = flat_length (grammar_of bs) in
    let l : length (grammar_spelled (grammar_of bs)) ≡ length bs = ap length p.1 in
    omega (arith, e, l, s.many, s.few)
