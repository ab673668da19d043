-- What a valid item says by itself: its rule, what of it is done, what stands below it on the stack, and what is still to come.
use Rattle.std.proofs.Common.{◌≡◌, ℕ, ◌<◌, true, ltb, leb, List, [], ◌∷◌, ◌++◌, length, sym, refl, ◌∙◌, subst, subst₂, append_assoc, arith}
use Rattle.std.proofs.lemmas.Bool.{and_parts, ltb-true, leb-true}
use Rattle.grammar.specs.Grammar.{Sym, sign, name, Grammar, rule, every, sym_fits, AllUseful}
use Rattle.grammar.specs.Trees.{Yields}
use Rattle.grammar.proofs.Lists.{never, every_at}
use Rattle.grammar.proofs.Sizes.{Sizes, right_fits}
use Rattle.grammar.proofs.Useful.{part_comes}
use Rattle.items.specs.Items.{onto, Valid, start, advance, close}

pub valid_rule : {g : Grammar} {γ β : List Sym} {r t : ℕ} → 0 < length g → Valid g γ r β t → r < length g
valid_rule h start = h
valid_rule h (advance v) = valid_rule h v
valid_rule h (close q lt l v D) = lt

-- the rule's right side is what is done of it, and then what is to come
pub done_part : {g : Grammar} {γ : List Sym} {r : ℕ} {β : List Sym} {t : ℕ} → Valid g γ r β t → (d : List Sym) × ((rule g r).right ≡ d ++ β)
done_part start = ([], refl)
done_part (advance {x = x} {β = β} v) = let p = done_part v in (p.0 ++ x ∷ [], p.1 ∙ sym (append_assoc p.0 (x ∷ []) β))
done_part (close q lt l v D) = ([], refl)

-- GOTO: some of what is to come is pushed, or all
pub advanced_by : {g : Grammar} {r t : ℕ} (d : List Sym) {β γ : List Sym} → Valid g γ r (d ++ β) t → Valid g (onto d γ) r β t
advanced_by [] v = v
advanced_by (x ∷ d) v = advanced_by d (advance v)

pub advanced : {g : Grammar} {r t : ℕ} (β : List Sym) {γ : List Sym} → Valid g γ r β t → Valid g (onto β γ) r [] t
advanced [] v = v
advanced (x ∷ β) v = advanced β (advance v)

-- WHAT IS NEXT
pub next_fits : (g : Grammar) → Sizes g → {γ : List Sym} {r : ℕ} {x : Sym} {β : List Sym} {t : ℕ} → Valid g γ r (x ∷ β) t → sym_fits x ≡ true
next_fits g s {γ} {r} {x} {β} v =
    let p = done_part v in
    every_at sym_fits p.0 x β (subst (λ l. every sym_fits l ≡ true) p.1 (right_fits g r (valid_rule s.rules v) s.fitting))

-- some item has x next behind γ
abbrev pub Due : Grammar → List Sym → Sym → Type 0
Due g γ x = (r : ℕ) × (β : List Sym) × (t : ℕ) × Valid g γ r (x ∷ β) t

-- the end is no sign that could be next
pub end_not_due : (g : Grammar) → Sizes g → (γ : List Sym) → Due g γ (sign 24) → ⊥
unfolding sym_fits
end_not_due g s γ d = let h = ltb-true 24 24 (next_fits g s d.3) in omega arith

-- nothing is to come behind the beginning's name
pub none_behind_start : (g : Grammar) → Sizes g → {f : List Sym} (γ : List Sym) {r : ℕ} {β : List Sym} {t : ℕ} → f ≡ name 0 ∷ γ → Valid g f r β t → ⊥
unfolding sym_fits
none_behind_start g s γ e start = never (cc)
none_behind_start g s γ e (advance {x = x} v) =
    let z : x ≡ name 0 = cc in
    let f : sym_fits (name 0) ≡ true = subst (λ y. sym_fits y ≡ true) z (next_fits g s v) in
    let h = leb-true 1 0 (and_parts (leb 1 0) (ltb 0 32) f).0 in omega arith
none_behind_start g s γ e (close q lt l v D) = none_behind_start g s γ e v

-- WHAT LIES ON THE STACK WAS NEXT BELOW IT
pub due_top : {g : Grammar} {f : List Sym} {r : ℕ} {β : List Sym} {t : ℕ} (x : Sym) (γ : List Sym) → f ≡ x ∷ γ → Valid g f r β t → Due g γ x
due_top x γ e start = never (cc)
due_top {g} x γ e (advance {γ = γ₁} {r = r} {x = y} {β = β} {t = t} v) =
    let z : y ≡ x = cc in
    let z₁ : γ₁ ≡ γ = cc in
    (r, β, t, subst₂ (λ k s. Valid g s r (k ∷ β) t) z z₁ v)
due_top x γ e (close q lt l v D) = due_top x γ e v

pub due_below : {g : Grammar} (δ : List Sym) (x : Sym) (γ : List Sym) {r : ℕ} {β : List Sym} {t : ℕ} → Valid g (onto δ (x ∷ γ)) r β t → Due g γ x
due_below [] x γ v = due_top x γ refl v
due_below (y ∷ δ) x γ v = let p = due_below δ y (x ∷ γ) v in due_top x γ refl p.3

-- WHAT IS STILL TO COME yields something, if every name is of use
pub to_come : {g : Grammar} → AllUseful g → {γ : List Sym} {r : ℕ} {β : List Sym} {t : ℕ} → Valid g γ r β t → (v rs : List ℕ) × Yields g β v rs
to_come {g} useful {r = r} {β} v = let p = done_part v in part_comes g useful r β p.0 p.1
