-- Pairs of items, without the stack, are the items that are valid behind one.
use Rattle.std.proofs.Common.{◌≡◌, ℕ, ◌<◌, List, [], ◌∷◌, length, refl, subst, subst₂}
use Rattle.grammar.specs.Grammar.{Sym, name, Grammar, rule, AllUseful}
use Rattle.grammar.proofs.Lists.{never}
use Rattle.items.specs.Items.{Valid, start, advance, close}
use Rattle.items.specs.First.{InFirst}
use Rattle.items.proofs.First.{of_in_first, behind_known}
use Rattle.conflicts.specs.Conflicts.{Both, starts, advances, closes_left, closes_right}
use Rattle.conflicts.specs.Statements.{PairsShareAStack}

pub both_valid : {g : Grammar} {r : ℕ} {β : List Sym} {t q : ℕ} {α : List Sym} {u : ℕ} → Both g r β t q α u →
    (γ : List Sym) × Valid g γ r β t × Valid g γ q α u
both_valid starts = ([], start, start)
both_valid (advances {x = x} b) = let p = both_valid b in (x ∷ p.0, advance p.1, advance p.2)
both_valid (closes_left p lt l b D) = let k = both_valid b in (k.0, close p lt l k.1 D, k.2)
both_valid (closes_right p lt l b D) = let k = both_valid b in (k.0, k.1, close p lt l k.2 D)

-- with the start item, and with an item just advanced, whatever the other is
at_start : {g : Grammar} {f : List Sym} {q : ℕ} {α : List Sym} {u : ℕ} → f ≡ [] → Valid g f q α u → Both g 0 (rule g 0).right 24 q α u
at_start e start = starts
at_start e (advance v) = never (cc)
at_start e (close p lt l v D) = closes_right p lt l (at_start e v) D

at_advance : {g : Grammar} {f : List Sym} {q : ℕ} {α : List Sym} {u : ℕ} (γ : List Sym) (x : Sym) (r : ℕ) (β : List Sym) (t : ℕ) →
    ((q : ℕ) (α : List Sym) (u : ℕ) → Valid g γ q α u → Both g r (x ∷ β) t q α u) → f ≡ x ∷ γ → Valid g f q α u → Both g r β t q α u
at_advance γ x r β t ih e start = never (cc)
at_advance {g} γ x r β t ih e (advance {γ = γ₁} {r = q} {x = y} {β = α} {t = u} v) =
    let z : y ≡ x = cc in
    let z₁ : γ₁ ≡ γ = cc in
    advances (ih q (x ∷ α) u (subst₂ (λ k s. Valid g s q (k ∷ α) u) z z₁ v))
at_advance γ x r β t ih e (close p lt l v D) = closes_right p lt l (at_advance γ x r β t ih e v) D

pub valid_both : {g : Grammar} {γ : List Sym} {r : ℕ} {β : List Sym} {t : ℕ} → Valid g γ r β t → (q : ℕ) (α : List Sym) (u : ℕ) → Valid g γ q α u →
    Both g r β t q α u
valid_both start q α u w = at_start refl w
valid_both (advance {γ = γ} {r = r} {x = x} {β = β} {t = t} v) q α u w = at_advance γ x r β t (valid_both v) refl w
valid_both (close p lt l v D) q α u w = closes_left p lt l (valid_both v q α u w) D

pub pairs_share_a_stack_lem : PairsShareAStack
unfolding PairsShareAStack
pairs_share_a_stack_lem g r β t q α u = (λ b. both_valid b, λ γ v w. valid_both v q α u w)

pub both_swap : {g : Grammar} {r : ℕ} {β : List Sym} {t q : ℕ} {α : List Sym} {u : ℕ} → Both g r β t q α u → Both g q α u r β t
both_swap starts = starts
both_swap (advances b) = advances (both_swap b)
both_swap (closes_left p lt l b D) = closes_right p lt l (both_swap b) D
both_swap (closes_right p lt l b D) = closes_left p lt l (both_swap b) D

-- CLOSURE BY FIRST, of the one item and of the other
pub closes_left_by_first : {g : Grammar} → AllUseful g → {r n : ℕ} {β : List Sym} {t q : ℕ} {α : List Sym} {u : ℕ} (v p : ℕ) → p < length g → (rule g p).left ≡ n →
    Both g r (name n ∷ β) t q α u → InFirst g β t v → Both g p (rule g p).right v q α u
closes_left_by_first {g} useful {t = t} {q} {α} {u} v p lt l b i =
    let k = of_in_first g useful t v (behind_known (both_valid b).1) i in
    subst (λ x. Both g p (rule g p).right x q α u) k.3 (closes_left p lt l b k.2)

pub closes_right_by_first : {g : Grammar} → AllUseful g → {r n : ℕ} {β : List Sym} {t q : ℕ} {α : List Sym} {u : ℕ} (v p : ℕ) → p < length g → (rule g p).left ≡ n →
    Both g q α u r (name n ∷ β) t → InFirst g β t v → Both g q α u p (rule g p).right v
closes_right_by_first {g} useful {t = t} {q} {α} {u} v p lt l b i =
    let k = of_in_first g useful t v (behind_known (both_valid b).2) i in
    subst (λ x. Both g q α u p (rule g p).right x) k.3 (closes_right p lt l b k.2)
