-- What clashes in forms is a conflict of items: behind the stack where the first rule is due, both items are valid.
use Rattle.std.proofs.Common.{◌≡◌, ℕ, ◌<◌, false, eqb, ◌⊎◌, List, [], ◌∷◌, ◌++◌, length, sym, refl, ap, ◌∙◌, subst, subst₂, inl, inr, arith, length-append}
use Rattle.grammar.specs.Grammar.{Sym, sign, name, Grammar, rule, each, signs, look, Clash, Clashes}
use Rattle.grammar.proofs.Lists.{never, same_split, longer_split}
use Rattle.grammar.proofs.Signs.{signs_once, as_signs}
use Rattle.grammar.proofs.Sizes.{Sizes}
use Rattle.items.specs.Items.{onto, lookahead, Valid}
use Rattle.items.proofs.Stacks.{onto_join, look_signs}
use Rattle.items.proofs.Items.{Due, due_below}
use Rattle.items.proofs.Complete.{complete_end}
use Rattle.conflicts.specs.Statements.{Conflict, by_reduce, by_shift}
use Rattle.conflicts.proofs.Pairs.{valid_both}

-- the other rule ends at the same place
other_reduce : {g : Grammar} (p b : List Sym) {q t : ℕ} (x y : List ℕ) → Valid g (onto p []) q [] (lookahead x) → p ++ signs x ≡ b ++ signs y → lookahead y ≡ t →
    length p ≡ length b → Valid g (onto b []) q [] t
other_reduce {g} p b {q} x y v e l h =
    let s = same_split p b (signs x) (signs y) e h in
    subst₂ (λ st k. Valid g (onto st []) q [] k) s.0 (ap lookahead (signs_once x y s.1) ∙ l) v

-- or further on, and then a sign was next at the end of the first
other_shift : {g : Grammar} (p b : List Sym) {q t u : ℕ} (x y : List ℕ) → Valid g (onto p []) q [] u → p ++ signs x ≡ b ++ signs y → lookahead y ≡ t →
    length b < length p → Due g (onto b []) (sign t)
unfolding each
other_shift {g} p b {q} {t} {u} x y v e l h =
    let k = longer_split p (signs x) b (signs y) e (omega arith) in
    go k.0 k.1 y refl k.2
  where
    go : (z : List Sym) → p ≡ b ++ z → (y₁ : List ℕ) → y ≡ y₁ → signs y₁ ≡ z ++ signs x → Due g (onto b []) (sign t)
    go [] ep y₁ k ey = absurd (omega (arith, h, ap length ep, length-append {A = Sym} b []))
    go (c ∷ z) ep [] k ey = never (cc)
    go (c ∷ z) ep (t₁ ∷ y₁) k ey =
        let f₀ : sign t₁ ≡ c = cc in
        let f : c ≡ sign t = sym f₀ ∙ ap sign (sym (ap lookahead k) ∙ l) in
        let v₁ : Valid g (onto z (c ∷ onto b [])) q [] u = subst (λ st. Valid g st q [] u) (ap (λ st. onto st []) ep ∙ onto_join b (c ∷ z) []) v in
        subst (λ m. Due g (onto b []) m) f (due_below z c (onto b []) v₁)

pub conflict_of_clash : (g : Grammar) → Sizes g → (c : Clash) → Clashes g c → Conflict g c
unfolding Clashes
conflict_of_clash g s c k = go k.22
  where
    w : (w : List ℕ) × (k.3 ≡ signs w)
    w = as_signs k.3 k.11

    x : (w : List ℕ) × (k.5 ≡ signs w)
    x = as_signs k.5 k.16

    y : (w : List ℕ) × (k.6 ≡ signs w)
    y = as_signs k.6 k.20

    b : List Sym
    b = k.2 ++ (rule g c.due).right

    p : List Sym
    p = k.4 ++ (rule g k.9).right

    v : Valid g (onto b []) c.due [] c.ahead
    v = subst (λ t. Valid g (onto (k.2 ++ (rule g c.due).right) []) c.due [] t) (sym (look_signs w.0) ∙ ap look (sym w.1) ∙ k.14)
        (complete_end g s k.0 k.2 k.7 w.0 c.due (k.10 ∙ ap (λ l. (k.2 ++ name k.7 ∷ l) ∷ []) w.1) k.12 k.13)

    u : Valid g (onto p []) k.9 [] (lookahead x.0)
    u = complete_end g s k.1 k.4 k.8 x.0 k.9 (k.15 ∙ ap (λ l. (k.4 ++ name k.8 ∷ l) ∷ []) x.1) k.17 k.18

    e : p ++ signs x.0 ≡ b ++ signs y.0
    e = ap (λ l. k.4 ++ (rule g k.9).right ++ l) (sym x.1) ∙ k.19 ∙ ap (λ l. k.2 ++ (rule g c.due).right ++ l) y.1

    l : lookahead y.0 ≡ c.ahead
    l = sym (look_signs y.0) ∙ ap look (sym y.1) ∙ k.21

    go : ((c.other ≡ k.9) × (eqb k.9 c.due ≡ false) × (length p ≡ length b)) ⊎ ((c.other ≡ 64) × (length b < length p)) → Conflict g c
    go (inl h) =
        by_reduce (subst (λ q. eqb q c.due ≡ false) (sym h.0) h.1)
        (valid_both v c.other [] c.ahead (subst (λ q. Valid g (onto b []) q [] c.ahead) (sym h.0) (other_reduce p b x.0 y.0 u e l h.2)))
    go (inr h) = let d = other_shift p b x.0 y.0 u e l h.1 in by_shift h.0 (valid_both v d.0 (sign c.ahead ∷ d.1) d.2 d.3)
