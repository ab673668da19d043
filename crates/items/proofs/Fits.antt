-- The sizes of valid items: stacks of symbols that fit, lookaheads up to 24.
use Rattle.std.proofs.Common.{◌≡◌, ℕ, ◌≤◌, true, ltb, List, [], ◌∷◌, ◌++◌, length, drop, sym, refl, ap, ◌∙◌, subst, inl, inr, arith, length-append, drop_at}
use Rattle.std.proofs.lemmas.Bool.{and_parts, and_from, ltb-true}
use Rattle.grammar.specs.Grammar.{every, each, Sym, Grammar, rule, signs, sym_fits}
use Rattle.grammar.proofs.Lists.{every_parts}
use Rattle.grammar.proofs.Sizes.{Sizes}
use Rattle.grammar.proofs.Forms.{form_fits}
use Rattle.items.specs.Items.{onto, lookahead, Valid, start, advance, close}
use Rattle.items.proofs.Items.{valid_rule, done_part, next_fits}
use Rattle.items.proofs.Sound.{sound, sound_step}

pub stack_fits : (g : Grammar) → Sizes g → {γ : List Sym} {r : ℕ} {β : List Sym} {t : ℕ} → Valid g γ r β t → every sym_fits γ ≡ true
unfolding every
stack_fits g s start = refl
stack_fits g s (advance {γ = γ} {x = x} v) = and_from (sym_fits x) (every sym_fits γ) (next_fits g s v) (stack_fits g s v)
stack_fits g s (close q lt l v D) = stack_fits g s v

signs_fit : (w : List ℕ) → every sym_fits (signs w) ≡ true → lookahead w ≤ 24
unfolding every each sym_fits
signs_fit [] h = omega arith
signs_fit (t ∷ w) h = let k = ltb-true t 24 (and_parts (ltb t 24) (every sym_fits (signs w)) h).0 in omega arith

pub lookahead_fits : (g : Grammar) → Sizes g → {γ : List Sym} {r : ℕ} {β : List Sym} {t : ℕ} → Valid g γ r β t → t ≤ 24
lookahead_fits g s {γ} {r} {β} {t} v =
    let a = sound g s v in
    let f = form_fits g s (a.rules ++ r ∷ []) (onto γ [] ++ β ++ signs a.more) (sound_step (valid_rule s.rules v) a) in
    let h : every sym_fits (onto γ [] ++ β ++ signs a.more) ≡ true =
    elim f [ inl e ↦ absurd (omega (arith, ap length e, length-append a.rules (r ∷ []))) | inr k ↦ k ] in
    subst (λ x. x ≤ 24) a.looks (signs_fit a.more (every_parts sym_fits (onto γ [] ++ β) (signs a.more) h).1)

-- the dot: what is to come is the right side without so many symbols
pub dot_of : {g : Grammar} {γ : List Sym} {r : ℕ} {β : List Sym} {t : ℕ} → Valid g γ r β t → (d : ℕ) × (d ≤ length (rule g r).right) × (β ≡ drop d (rule g r).right)
dot_of {g} {r = r} {β} v =
    let p = done_part v in (
      length p.0,
      omega (arith, ap length p.1, length-append p.0 β),
      sym (drop_at p.0 β (length p.0) refl) ∙ ap (drop (length p.0)) (sym p.1),
    )
