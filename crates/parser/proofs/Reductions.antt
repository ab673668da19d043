-- Rules reduced one after the other with one lookahead, and how many are before that sign is shifted.
use Rattle.std.proofs.Common.{◌≡◌, ℕ, suc, ◌+◌, ◌≤◌, List, [], ◌∷◌, length, sym, refl, ap, subst, arith}
use Rattle.grammar.specs.Grammar.{Sym, sign, name, Grammar, rule}
use Rattle.grammar.specs.Trees.{Yields, empty, leaf, node}
use Rattle.grammar.proofs.Lists.{never, nil_parts}
use Rattle.items.specs.Items.{onto, first_or, Valid, advance, close}
use Rattle.items.proofs.Items.{advanced}
use Rattle.conflicts.specs.Conflicts.{NoConflict}
use Rattle.parser.specs.Moves.{CanShift}
use Rattle.parser.proofs.Deterministic.{same_reduce}

-- so many rules are reduced, with t ahead, and no stack on the way but perhaps the first has less than b symbols
pub data Reductions (g : Grammar) (t b : ℕ) : List Sym → List Sym → ℕ → Type 0 where
  none : {γ : List Sym} → Reductions g t b γ γ 0
  reduction : {γ γ' : List Sym} {n : ℕ} (r : ℕ) (a : List Sym) → Valid g γ r [] t → γ ≡ onto (rule g r).right a → b ≤ suc (length a) →
      Reductions g t b (name (rule g r).left ∷ a) γ' n → Reductions g t b γ γ' (suc n)

pub reductions_append : {g : Grammar} {t b : ℕ} {γ γ₁ γ₂ : List Sym} {n m : ℕ} → Reductions g t b γ γ₁ n → Reductions g t b γ₁ γ₂ m → Reductions g t b γ γ₂ (n + m)
reductions_append {g} {t} {b} {γ} {γ₁} {γ₂} {m = m} none F = subst (λ k. Reductions g t b γ γ₂ k) (omega arith) F
reductions_append {g} {t} {b} {γ} {γ₁} {γ₂} {m = m} (reduction {n = n} r a v d h E) F =
    let e : suc (n + m) ≡ suc n + m = omega arith in
    subst (λ k. Reductions g t b γ γ₂ k) e (reduction r a v d h (reductions_append E F))

pub reductions_lower : {g : Grammar} {t c : ℕ} (b : ℕ) {γ γ₁ : List Sym} {n : ℕ} → b ≤ c → Reductions g t c γ γ₁ n → Reductions g t b γ γ₁ n
reductions_lower b h none = none
reductions_lower b h (reduction r a v d k E) = reduction r a v d (omega arith) (reductions_lower b h E)

-- the stack at the end has b symbols too, if the first has or something was reduced
pub reductions_height : {g : Grammar} {t b : ℕ} {γ γ₁ : List Sym} {n : ℕ} → b ≤ length γ → Reductions g t b γ γ₁ n → b ≤ length γ₁
reductions_height h none = h
reductions_height h (reduction r a v d k E) = reductions_height k E

pub reductions_height_suc : {g : Grammar} {t b : ℕ} {γ γ₁ : List Sym} {n : ℕ} → Reductions g t b γ γ₁ (suc n) → b ≤ length γ₁
reductions_height_suc (reduction r a v d k E) = reductions_height k E

-- a row that vanishes: so many rules are reduced, wherever it is awaited
abbrev pub VanishesBy : Grammar → List Sym → ℕ → Type 0
VanishesBy g β e = (γ : List Sym) (r t b : ℕ) → b ≤ length γ → Valid g γ r β t → Reductions g t b γ (onto β γ) e

pub vanishes : {g : Grammar} {β : List Sym} {v rs : List ℕ} → v ≡ [] → Yields g β v rs → (e : ℕ) × VanishesBy g β e
vanishes z empty = (0, λ γ r t b h val. none)
vanishes z (leaf D) = never (cc)
vanishes {g} z (node {n} {β} {u} {v} q lt l D₁ D₂) =
    let p = nil_parts u v z in
    let f₁ = vanishes p.0 D₁ in
    let f₂ = vanishes p.1 D₂ in (
      f₁.0 + suc f₂.0,
      λ γ r t b h val.
          let at : Valid g γ q (rule g q).right t = subst (λ x. Valid g γ q (rule g q).right (first_or x t)) p.1 (close q lt l val D₂) in
          let on : Reductions g t b (name (rule g q).left ∷ γ) (onto β (name n ∷ γ)) f₂.0 =
          subst (λ x. Reductions g t b (name x ∷ γ) (onto β (name n ∷ γ)) f₂.0) (sym l) (f₂.1 (name n ∷ γ) r t b (omega arith) (advance val)) in
          reductions_append (f₁.1 γ q t b h at) (reduction q γ (advanced (rule g q).right at) refl (omega arith) on),
    )

-- a row that begins with a sign: so many rules are reduced before it is shifted, wherever it is awaited
abbrev pub BeginsBy : Grammar → List Sym → ℕ → ℕ → Type 0
BeginsBy g β t e = (γ : List Sym) (r u : ℕ) → Valid g γ r β u → (γ₁ : List Sym) × Reductions g t 0 γ γ₁ e × CanShift g γ₁ t

pub begins_by : {g : Grammar} {β : List Sym} {w rs : List ℕ} (t : ℕ) (w₁ : List ℕ) → w ≡ t ∷ w₁ → Yields g β w rs → (e : ℕ) × BeginsBy g β t e
begins_by t w₁ z empty = never (cc)
begins_by {g} t w₁ z (leaf {t = s} {β} D) =
    let e : s ≡ t = cc in
    (0, λ γ r u val. (γ, none, (r, β, u, subst (λ x. Valid g γ r (sign x ∷ β) u) e val)))
begins_by {g} t w₁ z (node {n} {β} {u = []} {v} q lt l D₁ D₂) =
    let f₁ = vanishes refl D₁ in
    let f₂ = begins_by t w₁ z D₂ in (
      f₁.0 + suc f₂.0,
      λ γ r x val.
          let at : Valid g γ q (rule g q).right t = subst (λ y. Valid g γ q (rule g q).right (first_or y x)) z (close q lt l val D₂) in
          let on = f₂.1 (name n ∷ γ) r x (advance val) in
          let on₁ : Reductions g t 0 (name (rule g q).left ∷ γ) on.0 f₂.0 =
          subst (λ x. Reductions g t 0 (name x ∷ γ) on.0 f₂.0) (sym l) on.1 in
          (on.0, reductions_append (f₁.1 γ q t 0 (omega arith) at) (reduction q γ (advanced (rule g q).right at) refl (omega arith) on₁), on.2),
    )
begins_by {g} t w₁ z (node {n} {β} {u = y ∷ u} {v} q lt l D₁ D₂) =
    let e : y ≡ t = cc in
    let f₁ = begins_by t u (ap (λ k. k ∷ u) e) D₁ in
    (f₁.0, λ γ r x val. f₁.1 γ q (first_or v x) (close q lt l val D₂))

module _ (g : Grammar) (once : NoConflict g) where
  -- as many rules are reduced before the sign is shifted
  pub same_count : {t b c : ℕ} {γ γ₁ γ₂ : List Sym} {n m : ℕ} → Reductions g t b γ γ₁ n → CanShift g γ₁ t → Reductions g t c γ γ₂ m → CanShift g γ₂ t → n ≡ m
  same_count none p none q = refl
  same_count none p (reduction r a v d h F) q = absurd (once.shift_reduce v p.3)
  same_count (reduction r a v d h E) p none q = absurd (once.shift_reduce v q.3)
  same_count {t} {b} {c} {γ₂ = γ₂} (reduction r a v d h E) p (reduction {n = m} r₁ a₁ v₁ d₁ h₁ F) q =
      let e = same_reduce g once t r₁ r a₁ a v₁ d₁ v d in
      ap suc (same_count E p (subst (λ s. Reductions g t c s γ₂ m) e F) q)

  -- of two ways from one stack, the end of the shorter is on the longer
  pub on_the_way : {t b c : ℕ} {γ γ₁ γ₂ : List Sym} {n m : ℕ} → m ≤ n → b ≤ length γ → Reductions g t b γ γ₁ n → Reductions g t c γ γ₂ m → b ≤ length γ₂
  on_the_way k h E none = h
  on_the_way k h none (reduction r a v d j F) = absurd (omega arith)
  on_the_way {t} {b} {c} {γ₂ = γ₂} k h (reduction r a v d j E) (reduction {n = m} r₁ a₁ v₁ d₁ j₁ F) =
      let e = same_reduce g once t r₁ r a₁ a v₁ d₁ v d in
      on_the_way (omega arith) j E (subst (λ s. Reductions g t c s γ₂ m) e F)

  pub on_the_way_suc : {t b c : ℕ} {γ γ₁ γ₂ : List Sym} {n m : ℕ} → m ≤ n → Reductions g t b γ γ₁ (suc n) → Reductions g t c γ γ₂ (suc m) → b ≤ length γ₂
  on_the_way_suc {t} {b} {c} {γ₂ = γ₂} {m = m} k (reduction r a v d j E) (reduction r₁ a₁ v₁ d₁ j₁ F) =
      let e = same_reduce g once t r₁ r a₁ a v₁ d₁ v d in
      on_the_way k j E (subst (λ s. Reductions g t c s γ₂ m) e F)
