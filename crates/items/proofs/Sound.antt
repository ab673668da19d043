-- Soundness of items: a valid item comes from a form, and what its stack yields begins a text.
use Rattle.std.proofs.Common.{◌≡◌, ℕ, ◌<◌, List, [], ◌∷◌, ◌++◌, length, sym, refl, ap, ◌∙◌, append_assoc, append-nil}
use Rattle.grammar.specs.Grammar.{Sym, name, Grammar, rule, form, each, signs, comes_by, backwards, Makes}
use Rattle.grammar.specs.Trees.{Yields}
use Rattle.grammar.proofs.Derivations.{comes_by_append, by_rule_at}
use Rattle.grammar.proofs.Trees.{yields_append, comes_of}
use Rattle.grammar.proofs.Sizes.{Sizes}
use Rattle.items.specs.Items.{onto, lookahead, Valid, start, advance, close}
use Rattle.items.proofs.Stacks.{onto_append, onto_onto, lookahead_append}
use Rattle.items.proofs.Items.{valid_rule}

-- the stack would be `under` with the rule's right side on it, if what is to come were there; and with the left side in its place, signs behind it, it is a form
pub record Sound (g : Grammar) (γ : List Sym) (r : ℕ) (β : List Sym) (t : ℕ) : Type 0 where
  pub under : List Sym
  pub fits : onto β γ ≡ onto (rule g r).right under
  pub more : List ℕ
  pub looks : lookahead more ≡ t
  pub rules : List ℕ
  pub forms : form g rules ≡ (onto under [] ++ name (rule g r).left ∷ signs more) ∷ []

-- the stack and what is to come, as a row
pub sound_row : {g : Grammar} {γ : List Sym} {r : ℕ} {β : List Sym} {t : ℕ} (a : Sound g γ r β t) → onto a.under [] ++ (rule g r).right ≡ onto γ [] ++ β
sound_row {g} {γ} {r} {β} a =
    let e₁ : onto a.under [] ++ (rule g r).right ≡ onto a.under ((rule g r).right ++ []) =
    onto_append a.under [] (rule g r).right ∙ ap (onto a.under) (sym (append-nil (rule g r).right)) in
    let e₂ : onto a.under ((rule g r).right ++ []) ≡ onto γ (β ++ []) =
    sym (onto_onto (rule g r).right a.under []) ∙ ap (λ k. onto k []) (sym a.fits) ∙ onto_onto β γ [] in
    e₁ ∙ e₂ ∙ ap (onto γ) (append-nil β) ∙ sym (onto_append γ [] β)

-- the form that the rule makes of it
pub sound_step : {g : Grammar} {γ : List Sym} {r : ℕ} {β : List Sym} {t : ℕ} → r < length g → (a : Sound g γ r β t) →
    form g (a.rules ++ r ∷ []) ≡ (onto γ [] ++ β ++ signs a.more) ∷ []
unfolding comes_by
sound_step {g} {r = r} h a =
    comes_by_append g a.rules (r ∷ []) ((name 0 ∷ []) ∷ []) ∙ ap (comes_by g (r ∷ [])) a.forms
    ∙ by_rule_at g r (onto a.under []) (rule g r).left a.more h refl ∙ ap (λ k. (k ++ signs a.more) ∷ []) (sound_row a)

-- and what comes of it, if a name is next and what is behind it yields v
sound_close : {g : Grammar} {γ : List Sym} {r n : ℕ} {β : List Sym} {t : ℕ} {v rs : List ℕ} → r < length g → (a : Sound g γ r (name n ∷ β) t) → Yields g β v rs →
    form g ((a.rules ++ r ∷ []) ++ backwards rs) ≡ (onto γ [] ++ name n ∷ signs (v ++ a.more)) ∷ []
sound_close {g} {γ} {r} {n} {β} {t} {v} {rs} h a D =
    let a₁ : List Sym = onto γ [] ++ name n ∷ [] in
    let p : onto γ [] ++ name n ∷ β ++ signs a.more ≡ a₁ ++ (β ++ signs a.more) = simp append_assoc in
    comes_by_append g (a.rules ++ r ∷ []) (backwards rs) ((name 0 ∷ []) ∷ []) ∙ ap (comes_by g (backwards rs)) (sound_step h a)
    ∙ ap (λ k. comes_by g (backwards rs) (k ∷ [])) p ∙ comes_of D a₁ a.more ∙ ap (λ k. k ∷ []) (append_assoc (onto γ []) (name n ∷ []) (signs (v ++ a.more)))

pub sound : (g : Grammar) → Sizes g → {γ : List Sym} {r : ℕ} {β : List Sym} {t : ℕ} → Valid g γ r β t → Sound g γ r β t
unfolding comes_by each
sound g s start =
    record { under = []; fits = refl; more = []; looks = refl; rules = []; forms = ap (λ n. (name n ∷ []) ∷ []) (sym s.zero_left) }
sound g s (advance v) =
    let a = sound g s v in
    record { under = a.under; fits = a.fits; more = a.more; looks = a.looks; rules = a.rules; forms = a.forms }
sound g s {γ} (close {r = r} {n = n} {β = β} {t = t} {v = w} {rs = rs} q lt l v D) =
    let a = sound g s v in
    record {
      under = γ;
      fits = refl;
      more = w ++ a.more;
      looks = lookahead_append w a.more t a.looks;
      rules = (a.rules ++ r ∷ []) ++ backwards rs;
      forms = sound_close (valid_rule s.rules v) a D ∙ ap (λ m. (onto γ [] ++ name m ∷ signs (w ++ a.more)) ∷ []) (sym l);
    }

-- a text: whatever comes of the stack, then whatever comes of what is to come, then the lookahead
pub sound_text : (g : Grammar) → Sizes g → {γ : List Sym} {r : ℕ} {β : List Sym} {t : ℕ} {u v ps qs : List ℕ} → Valid g γ r β t →
    Yields g (onto γ []) u ps → Yields g β v qs → (more ds : List ℕ) × (lookahead more ≡ t) × Makes g ds (u ++ (v ++ more))
unfolding Makes comes_by each
sound_text g s {γ} {r} {β} {t} {u} {v} {ps} {qs} val D E =
    let a = sound g s val in (
      a.more,
      (a.rules ++ r ∷ []) ++ backwards (ps ++ qs),
      a.looks,
      comes_by_append g (a.rules ++ r ∷ []) (backwards (ps ++ qs)) ((name 0 ∷ []) ∷ [])
          ∙ ap (comes_by g (backwards (ps ++ qs))) (sound_step (valid_rule s.rules val) a) ∙ comes_of (yields_append D E) [] a.more
          ∙ ap (λ k. signs k ∷ []) (append_assoc u v a.more),
    )
