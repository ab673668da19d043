-- Derivation trees: rows parted and joined, and the derivations that they stand for.
use Rattle.std.proofs.Common.{◌≡◌, ℕ, ◌<◌, List, [], ◌∷◌, ◌++◌, length, sym, refl, ap, ◌∙◌, subst, subst₂, append_assoc, append-nil}
use Rattle.grammar.specs.Grammar.{each, backwards, Sym, sign, name, Grammar, rule, signs, comes_by}
use Rattle.grammar.specs.Trees.{Yields, empty, leaf, node, TreesExact}
use Rattle.grammar.proofs.Lists.{never, backwards_append, backwards_backwards}
use Rattle.grammar.proofs.Derivations.{comes_by_append, by_rule_at, first_step}

-- what a row yields, its parts yield
pub yields_split : {g : Grammar} (a : List Sym) {b f : List Sym} {v rs : List ℕ} → f ≡ a ++ b → Yields g f v rs →
    (v₁ v₂ rs₁ rs₂ : List ℕ) × Yields g a v₁ rs₁ × Yields g b v₂ rs₂ × (v ≡ v₁ ++ v₂) × (rs ≡ rs₁ ++ rs₂)
yields_split {g} [] {b} {v = v} {rs} e D = ([], v, [], rs, empty, subst (λ x. Yields g x v rs) e D, refl, refl)
yields_split (x ∷ a) e empty = never (cc)
yields_split {g} (x ∷ a) {b} e (leaf {t} {β} D) =
    let e₁ : sign t ≡ x = cc in
    let p = yields_split a {b = b} {f = β} (cc) D in
    (t ∷ p.0, p.1, p.2, p.3, subst (λ s. Yields g (s ∷ a) (t ∷ p.0) p.2) e₁ (leaf p.4), p.5, ap (λ l. t ∷ l) p.6, p.7)
yields_split {g} (x ∷ a) {b} e (node {n} {β} {u} {v} {rs} {qs} q lt l D₁ D₂) =
    let e₁ : name n ≡ x = cc in
    let p = yields_split a {b = b} {f = β} (cc) D₂ in (
      u ++ p.0,
      p.1,
      rs ++ q ∷ p.2,
      p.3,
      subst (λ s. Yields g (s ∷ a) (u ++ p.0) (rs ++ q ∷ p.2)) e₁ (node q lt l D₁ p.4),
      p.5,
      ap (λ l. u ++ l) p.6 ∙ sym (append_assoc u p.0 p.1),
      ap (λ l. rs ++ q ∷ l) p.7 ∙ sym (append_assoc rs (q ∷ p.2) p.3),
    )

-- and together
pub yields_append : {g : Grammar} {a b : List Sym} {v₁ v₂ rs₁ rs₂ : List ℕ} → Yields g a v₁ rs₁ → Yields g b v₂ rs₂ →
    Yields g (a ++ b) (v₁ ++ v₂) (rs₁ ++ rs₂)
yields_append empty E = E
yields_append (leaf D) E = leaf (yields_append D E)
yields_append {g} {b = b} {v₂ = v₂} {rs₂ = rs₂} (node {n} {β} {u} {v} {rs} {qs} q lt l D₁ D₂) E =
    subst₂ (λ x y. Yields g (name n ∷ β ++ b) x y) (sym (append_assoc u v v₂)) (sym (append_assoc rs (q ∷ qs) rs₂)) (node q lt l D₁ (yields_append D₂ E))

pub yields_signs : {g : Grammar} (w : List ℕ) → Yields g (signs w) w []
unfolding each
yields_signs [] = empty
yields_signs (t ∷ w) = leaf (yields_signs w)

pub signs_yield : {g : Grammar} (w : List ℕ) {f : List Sym} {v rs : List ℕ} → f ≡ signs w → Yields g f v rs → (v ≡ w) × (rs ≡ [])
unfolding each
signs_yield [] e empty = (refl, refl)
signs_yield [] e (leaf D) = never (cc)
signs_yield [] e (node q lt l D₁ D₂) = never (cc)
signs_yield (t ∷ w) e empty = never (cc)
signs_yield (t ∷ w) e (leaf {t = s} {β = β} D) =
    let e₁ : s ≡ t = cc in
    let p = signs_yield w {f = β} (cc) D in (cc, p.1)
signs_yield (t ∷ w) e (node q lt l D₁ D₂) = never (cc)

-- a step undone at the last name: its rule ends behind all others
pub yields_unstep : (g : Grammar) (r : ℕ) (b : List Sym) (n : ℕ) (w : List ℕ) {ts rs : List ℕ} → r < length g → (rule g r).left ≡ n →
    Yields g (b ++ (rule g r).right ++ signs w) ts rs → Yields g (b ++ name n ∷ signs w) ts (rs ++ r ∷ [])
yields_unstep g r b n w {ts} {rs} lt l D =
    let p = yields_split (b ++ (rule g r).right) {b = signs w} refl D in
    let s = signs_yield w refl p.5 in
    let q = yields_split b {b = (rule g r).right} refl p.4 in
    let E = yields_append q.4 (node r lt l q.5 (yields_signs w)) in
    let e₁ : q.0 ++ (q.1 ++ w) ≡ ts = sym (append_assoc q.0 q.1 w) ∙ ap (λ x. x ++ w) (sym q.6) ∙ ap (λ x. p.0 ++ x) (sym s.0) ∙ sym p.6 in
    let e₂ : q.2 ++ q.3 ≡ rs = sym q.7 ∙ sym (append-nil p.2) ∙ ap (λ x. p.2 ++ x) (sym s.1) ∙ sym p.7 in
    subst₂ (λ x y. Yields g (b ++ name n ∷ signs w) x y) e₁ (sym (append_assoc q.2 q.3 (r ∷ [])) ∙ ap (λ x. x ++ r ∷ []) e₂) E

-- DERIVATIONS ARE TREES: the rule used first is the last to end
pub tree_of : (g : Grammar) (ds : List ℕ) (f : List Sym) (ts : List ℕ) → comes_by g ds (f ∷ []) ≡ signs ts ∷ [] → Yields g f ts (backwards ds)
unfolding comes_by backwards
tree_of g [] f ts e = let e₁ : signs ts ≡ f = cc in subst (λ x. Yields g x ts []) e₁ (yields_signs ts)
tree_of g (r ∷ ds) f ts e =
    let p = first_step g r ds f (signs ts) [] e in
    let s = p.1 in
    let D = subst (λ x. Yields g x ts (backwards ds)) s.gives (tree_of g ds p.0 ts p.2) in
    subst (λ x. Yields g x ts (backwards ds ++ r ∷ [])) (sym s.is) (yields_unstep g r s.front s.it s.tail s.there s.fits D)

-- AND TREES ARE DERIVATIONS, wherever the row stands with signs behind it
pub comes_of : {g : Grammar} {β : List Sym} {v rs : List ℕ} → Yields g β v rs → (a : List Sym) (w : List ℕ) →
    comes_by g (backwards rs) ((a ++ (β ++ signs w)) ∷ []) ≡ (a ++ signs (v ++ w)) ∷ []
unfolding comes_by backwards each
comes_of empty a w = refl
comes_of {g} (leaf {t} {β} {v} {rs} D) a w =
    let h = comes_of D (a ++ sign t ∷ []) w in
    subst₂ (λ x y. comes_by g (backwards rs) (x ∷ []) ≡ y ∷ []) (append_assoc a (sign t ∷ []) (β ++ signs w)) (append_assoc a (sign t ∷ []) (signs (v ++ w))) h
comes_of {g} (node {n} {β} {u} {v} {rs} {qs} q lt l D₁ D₂) a w =
    let f : List Sym = a ++ (name n ∷ (β ++ signs w)) in
    let behind : comes_by g (backwards qs) (f ∷ []) ≡ (a ++ name n ∷ signs (v ++ w)) ∷ [] =
    subst₂ (λ x y. comes_by g (backwards qs) (x ∷ []) ≡ y ∷ []) (append_assoc a (name n ∷ []) (β ++ signs w)) (append_assoc a (name n ∷ []) (signs (v ++ w)))
    (comes_of D₂ (a ++ name n ∷ []) w) in
    let at : comes_by g (q ∷ []) ((a ++ name n ∷ signs (v ++ w)) ∷ []) ≡ (a ++ ((rule g q).right ++ signs (v ++ w))) ∷ [] =
    by_rule_at g q a n (v ++ w) lt l ∙ ap (λ x. x ∷ []) (append_assoc a (rule g q).right (signs (v ++ w))) in
    let below : comes_by g (backwards rs) ((a ++ ((rule g q).right ++ signs (v ++ w))) ∷ []) ≡ (a ++ signs (u ++ (v ++ w))) ∷ [] =
    comes_of D₁ a (v ++ w) in
    ap (λ x. comes_by g x (f ∷ [])) (backwards_append rs (q ∷ qs))
    ∙ comes_by_append g (backwards qs ++ q ∷ []) (backwards rs) (f ∷ [])
    ∙ ap (comes_by g (backwards rs)) (comes_by_append g (backwards qs) (q ∷ []) (f ∷ []) ∙ ap (comes_by g (q ∷ [])) behind ∙ at)
    ∙ below
    ∙ ap (λ x. (a ++ signs x) ∷ []) (sym (append_assoc u v w))

pub comes_at_end : {g : Grammar} {β : List Sym} {v rs : List ℕ} → Yields g β v rs → (a : List Sym) →
    comes_by g (backwards rs) ((a ++ β) ∷ []) ≡ (a ++ signs v) ∷ []
unfolding each
comes_at_end {g} {β} {v} {rs} D a =
    subst₂ (λ x y. comes_by g (backwards rs) ((a ++ x) ∷ []) ≡ (a ++ signs y) ∷ []) (append-nil β) (append-nil v) (comes_of D a [])

pub trees_exact_lem : TreesExact
unfolding TreesExact
trees_exact_lem g f ts rs = ((λ D. comes_at_end D []), (λ e. subst (λ x. Yields g f ts x) (backwards_backwards rs) (tree_of g (backwards rs) f ts e)))
