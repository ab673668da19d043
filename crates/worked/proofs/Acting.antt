-- Symbols as actions on states: where each name acts as the right sides of its rules do, a derivation keeps the action of a row. So a row of signs
-- that acts otherwise than the beginning is no text, and one that ends in a state that nothing leads out of begins none.
use Rattle.std.proofs.Common.{◌≡◌, ℕ, zero, suc, ◌<◌, List, [], ◌∷◌, ◌++◌, length, refl, ap, ◌∙◌, arith}
use Rattle.grammar.specs.Grammar.{Sym, name, Grammar, rule, comes_by, signs, Makes}
use Rattle.grammar.specs.Texts.{Begins, NotBegins}
use Rattle.grammar.proofs.Derivations.{Step, first_step}
use Rattle.grammar.proofs.Signs.{signs_append}

module _ {St : Type 0} (act : St → Sym → St) where
  unfoldable pub acts : St → List Sym → St
  acts s [] = s
  acts s (y ∷ f) = acts (act s y) f

  pub acts_append : (s : St) (f h : List Sym) → acts s (f ++ h) ≡ acts (acts s f) h
  unfolding acts
  acts_append s [] h = refl
  acts_append s (y ∷ f) h = acts_append (act s y) f h

  -- a state that no symbol leads out of
  abbrev pub Stuck : St → Type 0
  Stuck s = (y : Sym) → act s y ≡ s

  pub acts_stuck : (s : St) → Stuck s → (f : List Sym) → acts s f ≡ s
  unfolding acts
  acts_stuck s stuck [] = refl
  acts_stuck s stuck (y ∷ f) = ap (λ u. acts u f) (stuck y) ∙ acts_stuck s stuck f

  -- from a state, the name of each rule leads where its right side does
  unfoldable pub Agrees : St → Grammar → Type 0
  Agrees s [] = zero ≡ zero
  Agrees s (r ∷ g) = (act s (name r.left) ≡ acts s r.right) × Agrees s g

  agrees_at : (s : St) (g : Grammar) → Agrees s g → (r : ℕ) → r < length g → act s (name (rule g r).left) ≡ acts s (rule g r).right
  unfolding Agrees rule
  agrees_at s [] all r h = absurd (omega arith)
  agrees_at s (q ∷ g) all zero h = all.0
  agrees_at s (q ∷ g) all (suc r) h = agrees_at s g all.1 r (omega arith)

  module _ (g : Grammar) (agrees : (s : St) → Agrees s g) where
    acts_step : (r : ℕ) (f h : List Sym) → Step g r f h → (s : St) → acts s f ≡ acts s h
    unfolding acts
    acts_step r f h t s =
        let by_name = acts_append s t.front (name t.it ∷ signs t.tail) in
        let by_rule = acts_append s (t.front ++ (rule g r).right) (signs t.tail) in
        let behind-front = acts_append s t.front (rule g r).right in
        let same = agrees_at (acts s t.front) g (agrees (acts s t.front)) r t.there in
        cc

    pub acts_derived : (ds : List ℕ) (f h : List Sym) → comes_by g ds (f ∷ []) ≡ h ∷ [] → (s : St) → acts s f ≡ acts s h
    unfolding comes_by
    acts_derived [] f h e s = cc
    acts_derived (d ∷ ds) f h e s = let p = first_step g d ds f h [] e in acts_step d f p.0 p.1 s ∙ acts_derived ds p.0 h p.2 s

    pub acts_made : (ds ts : List ℕ) → Makes g ds ts → (s : St) → act s (name 0) ≡ acts s (signs ts)
    unfolding Makes acts
    acts_made ds ts m s = acts_derived ds (name 0 ∷ []) (signs ts) m s

    -- what leads to a state that is not left, and is not the beginning's, begins no text
    pub begins_none : (s : St) (ts : List ℕ) → Stuck (acts s (signs ts)) → (act s (name 0) ≡ acts s (signs ts) → ⊥) → NotBegins g ts
    unfolding Begins NotBegins
    begins_none s ts stuck other b =
        absurd (other (acts_made b.0 (ts ++ b.1) b.2 s ∙ ap (acts s) (signs_append ts b.1) ∙ acts_append s (signs ts) (signs b.1)
        ∙ acts_stuck (acts s (signs ts)) stuck (signs b.1)))
