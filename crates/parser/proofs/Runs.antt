-- Runs are joined, see of what is left only the lookahead, and parse a part alike on every stack that awaits it: so every text is accepted.
use Rattle.std.proofs.Common.{◌≡◌, ℕ, List, [], ◌∷◌, ◌++◌, sym, refl, ap, ◌∙◌, subst, subst₂, append_assoc, append-nil}
use Rattle.grammar.specs.Grammar.{Sym, sign, name, Grammar, rule, Makes, backwards}
use Rattle.grammar.specs.Trees.{Yields, empty, leaf, node}
use Rattle.grammar.proofs.Lists.{never}
use Rattle.grammar.proofs.Sizes.{Sizes}
use Rattle.grammar.proofs.Trees.{tree_of}
use Rattle.items.specs.Items.{onto, first_or, lookahead, Valid, start, advance, close}
use Rattle.items.proofs.Stacks.{lookahead_same, lookahead_append}
use Rattle.items.proofs.Items.{advanced}
use Rattle.parser.specs.Runs.{Run, stay, shift, reduce, Accepts}

pub run_append : {g : Grammar} {γ γ₁ γ₂ : List Sym} {us σ rs : List ℕ} (vs : List ℕ) {ρ qs : List ℕ} → σ ≡ vs ++ ρ →
    Run g γ us γ₁ σ rs → Run g γ₁ vs γ₂ ρ qs → Run g γ (us ++ vs) γ₂ ρ (rs ++ qs)
run_append vs e stay S = S
run_append vs e (shift v R) S = shift v (run_append vs e R S)
run_append {g} {γ} {us = us} vs {ρ} e (reduce r a v d R) S =
    reduce r a (subst (λ l. Valid g γ r [] (lookahead l)) (ap (λ l. us ++ l) e ∙ sym (append_assoc us vs ρ)) v) d (run_append vs e R S)

-- one move more at the end
pub run_push_shift : {g : Grammar} {γ γ₁ : List Sym} {us σ rs : List ℕ} (t : ℕ) (ρ : List ℕ) {r : ℕ} {β : List Sym} {u : ℕ} → σ ≡ t ∷ ρ →
    Run g γ us γ₁ σ rs → Valid g γ₁ r (sign t ∷ β) u → Run g γ (us ++ t ∷ []) (sign t ∷ γ₁) ρ rs
run_push_shift {g} {γ} {γ₁} {us} {σ} {rs} t ρ e R v =
    subst (λ l. Run g γ (us ++ t ∷ []) (sign t ∷ γ₁) ρ l) (append-nil rs) (run_append (t ∷ []) e R (shift v stay))

pub run_push_reduce : {g : Grammar} {γ γ₁ : List Sym} {us ρ rs : List ℕ} (r : ℕ) (a : List Sym) → Run g γ us γ₁ ρ rs → Valid g γ₁ r [] (lookahead ρ) →
    γ₁ ≡ onto (rule g r).right a → Run g γ us (name (rule g r).left ∷ a) ρ (rs ++ r ∷ [])
run_push_reduce {g} {γ} {γ₁} {us} {ρ} {rs} r a R v e =
    subst (λ l. Run g γ l (name (rule g r).left ∷ a) ρ (rs ++ r ∷ [])) (append-nil us) (run_append [] refl R (reduce r a v e stay))

-- of what is left only the lookahead is seen
pub run_sees_lookahead : {g : Grammar} {γ γ' : List Sym} {us ρ rs : List ℕ} (σ : List ℕ) → lookahead ρ ≡ lookahead σ → Run g γ us γ' ρ rs → Run g γ us γ' σ rs
run_sees_lookahead σ e stay = stay
run_sees_lookahead σ e (shift v R) = shift v (run_sees_lookahead σ e R)
run_sees_lookahead {g} {γ} {γ'} {us} {ρ} σ e (reduce r a v d R) =
    reduce r a (subst (λ t. Valid g γ r [] t) (lookahead_same us ρ σ e) v) d (run_sees_lookahead σ e R)

-- what a row yields is parsed to that row, on every stack behind which an item awaits it
pub run_part : {g : Grammar} {β : List Sym} {v rs : List ℕ} → Yields g β v rs → {γ : List Sym} {r t : ℕ} (w : List ℕ) → Valid g γ r β t →
    lookahead w ≡ t → Run g γ v (onto β γ) w rs
run_part empty w val e = stay
run_part (leaf D) w val e = shift val (run_part D w (advance val) e)
run_part {g} (node {n = n} {β = β} {v = v} {qs = qs} q lt l D₁ D₂) {γ} {r} {t} w val e =
    let look : first_or v t ≡ lookahead (v ++ w) = sym (lookahead_append v w t e) in
    let at : Valid g γ q (rule g q).right (lookahead (v ++ w)) = subst (λ x. Valid g γ q (rule g q).right x) look (close q lt l val D₂) in
    let on : Run g (name (rule g q).left ∷ γ) v (onto β (name n ∷ γ)) w qs =
    subst (λ x. Run g (name x ∷ γ) v (onto β (name n ∷ γ)) w qs) (sym l) (run_part D₂ w (advance val) e) in
    run_append v refl (run_part D₁ (v ++ w) at refl) (reduce q γ (advanced (rule g q).right at) refl on)

accepts_start : {g : Grammar} {ts rs : List ℕ} → (rule g 0).left ≡ 0 → Yields g (rule g 0).right ts rs → Accepts g ts (rs ++ 0 ∷ [])
accepts_start {g} {ts} {rs} z D =
    let R : Run g [] (ts ++ []) (name (rule g 0).left ∷ []) [] (rs ++ 0 ∷ []) =
    run_append [] refl (run_part D [] start refl) (reduce 0 [] (advanced (rule g 0).right start) refl stay) in
    subst₂ (λ us n. Run g [] us (name n ∷ []) [] (rs ++ 0 ∷ [])) (append-nil ts) z R

accepts_tree : {g : Grammar} {f : List Sym} {ts rs : List ℕ} → Sizes g → f ≡ name 0 ∷ [] → Yields g f ts rs → Accepts g ts rs
accepts_tree s e empty = never (cc)
accepts_tree s e (leaf D) = never (cc)
accepts_tree {g} s e (node {n} {u = u} {rs = rs} q lt l D empty) =
    let z : q ≡ 0 = s.zero_only q lt (cc) in
    let E : Yields g (rule g 0).right u rs = subst (λ k. Yields g (rule g k).right u rs) z D in
    subst₂ (λ us k. Run g [] us (name 0 ∷ []) [] (rs ++ k ∷ [])) (sym (append-nil u)) (sym z) (accepts_start s.zero_left E)
accepts_tree s e (node q lt l D (leaf E)) = never (cc)
accepts_tree s e (node q lt l D (node q₁ lt₁ l₁ E₁ E₂)) = never (cc)

-- every text is accepted, and its reading is what was reduced, backwards
pub accepts_made : (g : Grammar) → Sizes g → (ds ts : List ℕ) → Makes g ds ts → Accepts g ts (backwards ds)
unfolding Makes
accepts_made g s ds ts m = accepts_tree s refl (tree_of g ds (name 0 ∷ []) ts m)
