-- What a run shifted comes of what it reduced, backwards: what is accepted is a text.
use Rattle.std.proofs.Common.{◌≡◌, ℕ, ◌<◌, List, [], ◌∷◌, ◌++◌, length, sym, refl, ap, ◌∙◌, subst, append_assoc, append-nil}
use Rattle.grammar.specs.Grammar.{Sym, name, Grammar, rule, each, signs, comes_by, by_rule, last_name, Makes, backwards}
use Rattle.grammar.proofs.Derivations.{comes_by_append, by_rule_at}
use Rattle.items.specs.Items.{onto}
use Rattle.items.proofs.Stacks.{onto_append, onto_onto}
use Rattle.items.proofs.Items.{valid_rule}
use Rattle.parser.specs.Runs.{Run, stay, shift, reduce, Accepts}

-- a rule in place of the name on top of a stack
by_rule_onto : (g : Grammar) (r : ℕ) (a : List Sym) (w : List ℕ) → r < length g →
    by_rule g r (last_name (onto a (name (rule g r).left ∷ signs w))) ≡ onto a ((rule g r).right ++ signs w) ∷ []
by_rule_onto g r a w h =
    let δ : List Sym = (rule g r).right in
    ap (λ f. by_rule g r (last_name f)) (sym (onto_append a [] (name (rule g r).left ∷ signs w))) ∙ by_rule_at g r (onto a []) (rule g r).left w h refl
    ∙ ap (λ f. f ∷ []) (append_assoc (onto a []) δ (signs w) ∙ onto_append a [] (δ ++ signs w))

-- from the stack at the end, by the rules reduced, to the stack at the beginning and the signs shifted
pub run_comes : {g : Grammar} {γ γ' : List Sym} {us ρ rs : List ℕ} → 0 < length g → Run g γ us γ' ρ rs → (w : List ℕ) →
    comes_by g (backwards rs) (onto γ' (signs w) ∷ []) ≡ onto γ (signs (us ++ w)) ∷ []
unfolding comes_by backwards each
run_comes h stay w = refl
run_comes h (shift v R) w = run_comes h R w
run_comes {g} {γ} {γ'} {us} h (reduce {rs = rs} r a v d R) w =
    let f : List (List Sym) = onto γ' (signs w) ∷ [] in
    let e₁ : comes_by g (backwards rs ++ r ∷ []) f ≡ comes_by g (r ∷ []) (comes_by g (backwards rs) f) = comes_by_append g (backwards rs) (r ∷ []) f in
    let e₂ : comes_by g (r ∷ []) (comes_by g (backwards rs) f) ≡ by_rule g r (last_name (onto a (name (rule g r).left ∷ signs (us ++ w)))) =
    ap (comes_by g (r ∷ [])) (run_comes h R w) in
    let e₃ = by_rule_onto g r a (us ++ w) (valid_rule h v) in
    let e₄ : onto a ((rule g r).right ++ signs (us ++ w)) ≡ onto γ (signs (us ++ w)) =
    sym (onto_onto (rule g r).right a (signs (us ++ w))) ∙ ap (λ x. onto x (signs (us ++ w))) (sym d) in
    e₁ ∙ e₂ ∙ e₃ ∙ ap (λ x. x ∷ []) e₄

pub made_accepts : {g : Grammar} {ts rs : List ℕ} → 0 < length g → Accepts g ts rs → Makes g (backwards rs) ts
unfolding Makes each
made_accepts {g} {ts} {rs} h R =
    let e : comes_by g (backwards rs) (onto (name 0 ∷ []) (signs []) ∷ []) ≡ signs (ts ++ []) ∷ [] = run_comes h R [] in
    subst (λ x. comes_by g (backwards rs) ((name 0 ∷ []) ∷ []) ≡ signs x ∷ []) (append-nil ts) e
