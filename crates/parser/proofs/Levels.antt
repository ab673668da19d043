-- Kernel items of the levels of a stack: no two levels that are reached with the same text left, one above the other, see the same item.
use Rattle.std.proofs.Common.{◌≡◌, ℕ, suc, ◌+◌, ◌<◌, ◌≤◌, List, [], ◌∷◌, length, sym, refl, ap, ◌∙◌, subst, subst₂, arith, length-append}
use Rattle.grammar.specs.Grammar.{Sym, name, Grammar, rule}
use Rattle.grammar.specs.Trees.{Yields, node}
use Rattle.items.specs.Items.{onto, first_or, Valid, start, advance, close}
use Rattle.items.proofs.Stacks.{length_onto, first_or_append}
use Rattle.items.proofs.Items.{done_part, advanced}
use Rattle.conflicts.specs.Conflicts.{NoConflict}
use Rattle.parser.proofs.Live.{live}
use Rattle.parser.proofs.Reductions.{Reductions, none, reduction, reductions_append, reductions_lower, reductions_height_suc, vanishes, begins_by, same_count, on_the_way_suc}

-- a kernel item: its dot stands behind the top of the stack
abbrev pub Kernel : Grammar → List Sym → ℕ → List Sym → ℕ → Type 0
Kernel g [] r β t = ⊥
Kernel g (x ∷ γ) r β t = Valid g γ r (x ∷ β) t

pub kernel_valid : {g : Grammar} (γ : List Sym) {r : ℕ} {β : List Sym} {t : ℕ} → Kernel g γ r β t → Valid g γ r β t
kernel_valid [] k = absurd k
kernel_valid (x ∷ γ) k = advance k

-- a kernel item, and what comes of the rest of it with t' ahead
pub record KernelItem (g : Grammar) (γ : List Sym) (t' : ℕ) : Type 0 where
  pub rule_of : ℕ
  pub rest : List Sym
  pub ahead : ℕ
  pub comes : List ℕ
  pub by : List ℕ
  pub item : Kernel g γ rule_of rest ahead
  pub tree : Yields g rest comes by
  pub sees : first_or comes ahead ≡ t'

pub kernel_item : {g : Grammar} {γ : List Sym} {r : ℕ} {β : List Sym} {t t' : ℕ} {v rs : List ℕ} → 0 < length γ → Valid g γ r β t → Yields g β v rs →
    first_or v t ≡ t' → KernelItem g γ t'
kernel_item h start D e = absurd (omega arith)
kernel_item {r = r} {β} {t} {v = w} {rs} h (advance v) D e = record { rule_of = r; rest = β; ahead = t; comes = w; by = rs; item = v; tree = D; sees = e }
kernel_item {v = w} h (close {t = t} {v = v₁} q lt l v D₁) D e = kernel_item h v (node q lt l D D₁) (first_or_append w v₁ t ∙ e)

module _ (g : Grammar) (once : NoConflict g) where
  -- a row that begins with the sign: from both levels it is shifted after as many reductions
  levels_sign : {γ γ₁ β : List Sym} {r t t₁ t' n : ℕ} {v rs : List ℕ} (w : List ℕ) → v ≡ t' ∷ w → Valid g γ r β t → Valid g γ₁ r β t₁ → Yields g β v rs →
      Reductions g t' (suc (length γ)) γ γ₁ (suc n) → ⊥
  levels_sign {γ} {γ₁} {β} {r} {t} {t₁} {t'} {n} w z x y D E =
      let f = begins_by t' w z D in
      let p = f.1 γ r t x in
      let q = f.1 γ₁ r t₁ y in
      let c : f.0 ≡ suc n + f.0 = same_count g once p.1 p.2 (reductions_append (reductions_lower 0 (omega arith) E) q.1) q.2 in
      omega arith

  -- a row that vanishes: the lower level ends its rule, and falls, before it could climb
  levels_none : {γ γ₁ β : List Sym} {r t n : ℕ} {v rs : List ℕ} → v ≡ [] → Kernel g γ r β t → Valid g γ₁ r β t → Yields g β v rs →
      Reductions g t (suc (length γ)) γ γ₁ (suc n) → ⊥
  levels_none {γ = []} z k y D E = absurd k
  levels_none {γ = x ∷ γ} {γ₁} {β} {r} {t} {n} z k y D E =
      let f = vanishes z D in
      let o = live k in
      let p = done_part k in
      let h : length o.below ≤ length γ =
      omega (arith, ap length o.fits, length_onto (x ∷ β) γ, length_onto (rule g r).right o.below, ap length p.1, length-append p.0 (x ∷ β)) in
      let b : ℕ = suc (length (x ∷ γ)) in
      let down : Reductions g t 0 (x ∷ γ) (name (rule g r).left ∷ o.below) (f.0 + 1) =
      reductions_append (f.1 (x ∷ γ) r t 0 (omega arith) (advance k)) (reduction r o.below (advanced β (advance k)) o.fits (omega arith) none) in
      let up : Reductions g t b (x ∷ γ) (onto β γ₁) (suc n + f.0) = reductions_append E (f.1 γ₁ r t b (reductions_height_suc E) y) in
      let e₁ : f.0 + 1 ≡ suc f.0 = omega arith in
      let e₂ : suc n + f.0 ≡ suc (n + f.0) = omega arith in
      let low : b ≤ length (name (rule g r).left ∷ o.below) =
      on_the_way_suc g once (omega arith) (subst (λ m. Reductions g t b (x ∷ γ) (onto β γ₁) m) e₂ up)
      (subst (λ m. Reductions g t 0 (x ∷ γ) (name (rule g r).left ∷ o.below) m) e₁ down) in
      omega arith

  pub levels_apart : {γ γ₁ : List Sym} {t n : ℕ} (s : KernelItem g γ t) (s₁ : KernelItem g γ₁ t) → Reductions g t (suc (length γ)) γ γ₁ (suc n) →
      s.rule_of ≡ s₁.rule_of → s.rest ≡ s₁.rest → ⊥
  levels_apart {γ} {γ₁} {t} {n} s s₁ E er eb = go s.comes refl s₁.comes refl
    where
      y : Valid g γ₁ s.rule_of s.rest s₁.ahead
      y = subst₂ (λ r β. Valid g γ₁ r β s₁.ahead) (sym er) (sym eb) (kernel_valid γ₁ s₁.item)

      D₁ : Yields g s.rest s₁.comes s₁.by
      D₁ = subst (λ β. Yields g β s₁.comes s₁.by) (sym eb) s₁.tree

      go : (v : List ℕ) → s.comes ≡ v → (v₁ : List ℕ) → s₁.comes ≡ v₁ → ⊥
      go (x ∷ v) e v₁ e₁ =
          let z : x ≡ t = ap (λ l. first_or l s.ahead) (sym e) ∙ s.sees in
          levels_sign v (e ∙ ap (λ k. k ∷ v) z) (kernel_valid γ s.item) y s.tree E
      go [] e (x ∷ v₁) e₁ =
          let z : x ≡ t = ap (λ l. first_or l s₁.ahead) (sym e₁) ∙ s₁.sees in
          levels_sign v₁ (e₁ ∙ ap (λ k. k ∷ v₁) z) (kernel_valid γ s.item) y D₁ E
      go [] e [] e₁ =
          let z : s.ahead ≡ t = ap (λ l. first_or l s.ahead) (sym e) ∙ s.sees in
          let z₁ : s₁.ahead ≡ t = ap (λ l. first_or l s₁.ahead) (sym e₁) ∙ s₁.sees in
          levels_none e (subst (λ k. Kernel g γ s.rule_of s.rest k) z s.item) (subst (λ k. Valid g γ₁ s.rule_of s.rest k) z₁ y) s.tree E
