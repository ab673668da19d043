-- Conflicts of items show in forms: two items that conflict give two forms that clash.
use Rattle.std.proofs.Common.{◌≡◌, ℕ, ◌<◌, false, eqb, ◌⊎◌, List, [], ◌∷◌, ◌++◌, length, sym, refl, ap, ◌∙◌, subst₂, inl, inr, append-nil, arith}
use Rattle.grammar.specs.Grammar.{Sym, sign, Grammar, rule, each, signs, AllUseful, Clashes}
use Rattle.grammar.specs.Trees.{Yields, empty, leaf, node}
use Rattle.grammar.proofs.Signs.{signs_append, all_signs_signs}
use Rattle.grammar.proofs.Sizes.{Sizes}
use Rattle.items.specs.Items.{onto, lookahead, Valid, advance, close}
use Rattle.items.proofs.Stacks.{onto_append, onto_onto, length_onto, look_signs}
use Rattle.items.proofs.Items.{valid_rule, to_come}
use Rattle.items.proofs.Sound.{Sound, sound, sound_row}

sound_front : {g : Grammar} {γ : List Sym} {r t : ℕ} (a : Sound g γ r [] t) → onto a.under [] ++ (rule g r).right ≡ onto γ []
sound_front {γ = γ} a = sound_row a ∙ append-nil (onto γ [])

-- how the other item stands to the complete one, by the rows that their stacks are: it is complete too, or 64 for a sign further on
abbrev Otherwise : (o r q : ℕ) (here there : List Sym) → Type 0
Otherwise o r q here there = ((o ≡ q) × (eqb q r ≡ false) × (length there ≡ length here)) ⊎ ((o ≡ 64) × (length here < length there))

-- two complete items whose stacks go on to one row
clash_of_complete : (g : Grammar) {γ δ : List Sym} {r q t u o : ℕ} → r < length g → q < length g → (a : Sound g γ r [] t) (b : Sound g δ q [] u) (y : List ℕ) →
    onto δ [] ++ signs b.more ≡ onto γ [] ++ signs y → lookahead y ≡ t → Otherwise o r q (onto γ []) (onto δ []) →
    Clashes g (record { due = r; other = o; ahead = t })
unfolding Clashes
clash_of_complete g {γ} {δ} {r} {q} {t} {u} {o} lr lq a b y e l h =
    let ea = sound_front a in
    let eb = sound_front b in (
      a.rules,
      b.rules,
      onto a.under [],
      signs a.more,
      onto b.under [],
      signs b.more,
      signs y,
      (rule g r).left,
      (rule g q).left,
      q,
      a.forms,
      all_signs_signs a.more,
      lr,
      refl,
      look_signs a.more ∙ a.looks,
      b.forms,
      all_signs_signs b.more,
      lq,
      refl,
      ap (λ k. k ++ signs b.more) eb ∙ e ∙ ap (λ k. k ++ signs y) (sym ea),
      all_signs_signs y,
      look_signs y ∙ l,
      subst₂ (λ k j. Otherwise o r q k j) (sym ea) (sym eb) h,
    )

-- TWO RULES are complete with one lookahead
pub clash_reduce : (g : Grammar) → Sizes g → {γ : List Sym} {r q t : ℕ} → Valid g γ r [] t → Valid g γ q [] t → eqb q r ≡ false →
    Clashes g (record { due = r; other = q; ahead = t })
clash_reduce g s v w ne =
    let b = sound g s w in
    clash_of_complete g (valid_rule s.rules v) (valid_rule s.rules w) (sound g s v) b b.more refl b.looks (inl (refl, ne, refl))

-- A RULE is complete where a sign is next. From that sign on, the first rule that is complete behind signs:
first_complete : {g : Grammar} {β : List Sym} {v rs : List ℕ} → Yields g β v rs → {γ : List Sym} {r t : ℕ} → Valid g γ r β t →
    (u : List ℕ) × (q t₁ : ℕ) × Valid g (onto (signs u) γ) q [] t₁
unfolding each
first_complete empty {γ} {r} {t} val = ([], r, t, val)
first_complete (leaf {t = x} D) val = let p = first_complete D (advance val) in (x ∷ p.0, p.1, p.2, p.3)
first_complete (node q lt l D₁ D₂) val = first_complete D₁ (close q lt l val D₂)

clash_behind : (g : Grammar) → Sizes g → {γ : List Sym} {r q t t₁ : ℕ} (u : List ℕ) → Valid g γ r [] t → Valid g (onto (signs u) (sign t ∷ γ)) q [] t₁ →
    Clashes g (record { due = r; other = 64; ahead = t })
unfolding each
clash_behind g s {γ} {r} {q} {t} {t₁} u v w =
    let b = sound g s w in
    let δ : List Sym = onto (signs u) (sign t ∷ γ) in
    let e : onto δ [] ++ signs b.more ≡ onto γ [] ++ signs (t ∷ u ++ b.more) =
    onto_append δ [] (signs b.more) ∙ onto_onto (signs u) (sign t ∷ γ) (signs b.more)
    ∙ ap (λ k. onto γ (sign t ∷ k)) (sym (signs_append u b.more)) ∙ sym (onto_append γ [] (signs (t ∷ u ++ b.more))) in
    let h : length (onto γ []) < length (onto δ []) =
    omega (arith, length_onto γ [], length_onto δ [], length_onto (signs u) (sign t ∷ γ)) in
    clash_of_complete g (valid_rule s.rules v) (valid_rule s.rules w) (sound g s v) b (t ∷ u ++ b.more) e refl (inr (refl, h))

pub clash_shift : (g : Grammar) → Sizes g → AllUseful g → {γ : List Sym} {r q t u : ℕ} {β : List Sym} → Valid g γ r [] t → Valid g γ q (sign t ∷ β) u →
    Clashes g (record { due = r; other = 64; ahead = t })
clash_shift g s useful v w =
    let D = to_come useful (advance w) in
    let f = first_complete D.2 (advance w) in
    clash_behind g s f.0 v f.3
