-- Behind every stack that a run reaches an item is valid, unless all is accepted; and from there no run goes on. So its symbols can stand on stacks.
use Rattle.std.proofs.Common.{◌≡◌, ℕ, true, ◌⊎◌, List, [], ◌∷◌, ◌++◌, sym, refl, ap, ◌∙◌, subst, ap₂, inl, inr}
use Rattle.grammar.specs.Grammar.{every, Sym, name, Grammar, rule}
use Rattle.grammar.proofs.Sizes.{Sizes}
use Rattle.items.specs.Items.{onto, lookahead, Valid, start, advance, close}
use Rattle.items.specs.Sets.{stackable}
use Rattle.items.proofs.Stacks.{onto_cancel}
use Rattle.items.proofs.Items.{none_behind_start}
use Rattle.items.proofs.Fits.{stack_fits}
use Rattle.items.proofs.StackSymbols.{all_stackable}
use Rattle.parser.specs.Runs.{Run, stay, shift, reduce}
use Rattle.parser.specs.Moves.{Stuck}

abbrev pub SomeItem : Grammar → List Sym → Type 0
SomeItem g γ = (r : ℕ) × (β : List Sym) × (t : ℕ) × Valid g γ r β t

abbrev pub Accepted : List Sym → List ℕ → Type 0
Accepted γ ρ = (γ ≡ name 0 ∷ []) × (lookahead ρ ≡ 24)

-- an item is of the first rule, at the end of all, or was begun by an item that has its name next
abbrev Begun : Grammar → List Sym → ℕ → List Sym → ℕ → Type 0
Begun g γ r β t =
    ((r ≡ 0) × (t ≡ 24) × (onto β γ ≡ onto (rule g r).right []))
    ⊎ ((a : List Sym) × (r₁ : ℕ) × (β₁ : List Sym) × (t₁ : ℕ) × (onto β γ ≡ onto (rule g r).right a) × Valid g a r₁ (name (rule g r).left ∷ β₁) t₁)

begun : {g : Grammar} {γ : List Sym} {r : ℕ} {β : List Sym} {t : ℕ} → Valid g γ r β t → Begun g γ r β t
begun start = inl (refl, refl, refl)
begun (advance v) = begun v
begun {g} {γ} (close {r = r₁} {β = β₁} {t = t₁} q lt l v D) = inr (γ, r₁, β₁, t₁, refl, subst (λ n. Valid g γ r₁ (name n ∷ β₁) t₁) (sym l) v)

module _ (g : Grammar) (s : Sizes g) where
  pub accepted_stays : {γ γ' : List Sym} (γ₁ : List Sym) {us ρ rs : List ℕ} → γ ≡ name 0 ∷ γ₁ → Run g γ us γ' ρ rs → (γ' ≡ γ) × (us ≡ [])
  accepted_stays γ₁ e stay = (refl, refl)
  accepted_stays γ₁ e (shift v R) = absurd (none_behind_start g s γ₁ e v)
  accepted_stays γ₁ e (reduce r a v d R) = absurd (none_behind_start g s γ₁ e v)

  pub accepted_stuck : {γ : List Sym} (ρ : List ℕ) → γ ≡ name 0 ∷ [] → Stuck g γ ρ
  accepted_stuck ρ e = record { no_reduce = λ q w. none_behind_start g s [] e w; no_shift = λ t σ k c. none_behind_start g s [] e c.3 }

  pub item_reached : {γ γ' : List Sym} {us ρ rs : List ℕ} → SomeItem g γ → Run g γ us γ' ρ rs → SomeItem g γ' ⊎ Accepted γ' ρ
  item_reached i stay = inl i
  item_reached i (shift {r = r} {β = β} {u = u} v R) = item_reached (r, β, u, advance v) R
  item_reached {γ} {γ'} {us} {ρ} i (reduce {rs = rs} r a v d R) = go (λ j. item_reached j R) (begun v)
    where
      go : (SomeItem g (name (rule g r).left ∷ a) → SomeItem g γ' ⊎ Accepted γ' ρ) → Begun g γ r [] (lookahead (us ++ ρ)) → SomeItem g γ' ⊎ Accepted γ' ρ
      go ih (inl p) =
          let ea : a ≡ [] = onto_cancel (rule g r).right a [] (sym d ∙ p.2) in
          let el : (rule g r).left ≡ 0 = ap (λ k. (rule g k).left) p.0 ∙ s.zero_left in
          let e : name (rule g r).left ∷ a ≡ name 0 ∷ [] = ap₂ (λ x y. name x ∷ y) el ea in
          let q = accepted_stays [] e R in
          inr (q.0 ∙ e, subst (λ l. lookahead (l ++ ρ) ≡ 24) q.1 p.1)
      go ih (inr p) =
          let ea : p.0 ≡ a = onto_cancel (rule g r).right p.0 a (sym p.4 ∙ d) in
          ih (p.1, p.2, p.3, advance (subst (λ k. Valid g k p.1 (name (rule g r).left ∷ p.2) p.3) ea p.5))

  -- from the beginning
  pub reached : {γ : List Sym} {us ρ rs : List ℕ} → Run g [] us γ ρ rs → SomeItem g γ ⊎ Accepted γ ρ
  reached R = item_reached (0, (rule g 0).right, 24, start) R

  pub reached_stackable : {γ : List Sym} {us ρ rs : List ℕ} → Run g [] us γ ρ rs → every stackable γ ≡ true
  unfolding every stackable
  reached_stackable {γ} R = elim (reached R) [
    | inl i ↦ all_stackable γ (stack_fits g s i.3)
    | inr p ↦ subst (λ x. every stackable x ≡ true) (sym p.0) refl
  ]
