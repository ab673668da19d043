-- The kernel settles the set: what is alike stays so behind one more symbol; and the empty row is alike to no other.
use Rattle.std.proofs.Common.{◌≡◌, ℕ, ◌<◌, true, ltb, leb, List, [], ◌∷◌, ◌++◌, length, sym, refl, ap, ◌∙◌, subst, subst₂, arith, length-append}
use Rattle.std.proofs.lemmas.Bool.{and_parts, leb-true}
use Rattle.grammar.specs.Grammar.{Sym, Grammar, rule, sym_fits, a_grammar}
use Rattle.grammar.proofs.Lists.{never}
use Rattle.grammar.proofs.Sizes.{Sizes, sizes}
use Rattle.items.specs.Items.{onto, Valid, start, advance, close}
use Rattle.items.proofs.Stacks.{onto_join, onto_back}
use Rattle.items.proofs.Items.{done_part, next_fits}
use Rattle.tables.specs.Sets.{Alike}
use Rattle.tables.specs.Statements.{AlikeGoesOn, FirstIsAlone}
use Rattle.tables.proofs.Standing.{SameItems, alike_valid, valid_alike, alike_turned, item_viable}

-- two stacks that have the same items before x have the same behind it
pub by_kernel : {g : Grammar} {f : List Sym} {r : ℕ} {β : List Sym} {t : ℕ} (x : Sym) (γ δ : List Sym) →
    ((r : ℕ) (β : List Sym) (t : ℕ) → Valid g γ r (x ∷ β) t → Valid g δ r (x ∷ β) t) → f ≡ x ∷ γ → Valid g f r β t → Valid g (x ∷ δ) r β t
by_kernel x γ δ k e start = never (cc)
by_kernel {g} x γ δ k e (advance {γ = γ₁} {r = r} {x = y} {β = β} {t = t} v) =
    let z : y ≡ x = cc in
    let w : γ₁ ≡ γ = cc in
    advance (k r β t (subst₂ (λ a b. Valid g a r (b ∷ β) t) w z v))
by_kernel x γ δ k e (close q lt l v D) = close q lt l (by_kernel x γ δ k e v) D

-- behind a stack that is not empty an item with its dot behind the first symbol came over the top; the first rule has none with its dot before it
pub came_over : {g : Grammar} {f : List Sym} {r : ℕ} {β : List Sym} {t : ℕ} (x : Sym) (γ : List Sym) → f ≡ x ∷ γ → length β < length (rule g r).right →
    Valid g f r β t → Valid g γ r (x ∷ β) t
came_over x γ e h start = absurd (omega arith)
came_over {g} x γ e h (advance {γ = γ₁} {r = r} {x = y} {β = β} {t = t} v) =
    let z : y ≡ x = cc in
    let w : γ₁ ≡ γ = cc in
    subst₂ (λ a b. Valid g a r (b ∷ β) t) w z v
came_over x γ e h (close q lt l v D) = absurd (omega arith)

pub first_not_begun : (g : Grammar) → Sizes g → {f : List Sym} {r : ℕ} {β : List Sym} {t : ℕ} (x : Sym) (γ : List Sym) → f ≡ x ∷ γ → r ≡ 0 →
    β ≡ (rule g 0).right → Valid g f r β t → ⊥
unfolding sym_fits
first_not_begun g s x γ e z k start = never (cc)
first_not_begun g s x γ e z k (advance {r = r} {x = y} {β = β} v) =
    let p = done_part v in
    omega (arith, ap length p.1, length-append p.0 (y ∷ β), ap length k, ap (λ i. length (rule g i).right) z)
first_not_begun g s x γ e z k (close {n = n} q lt l v D) =
    let h = leb-true 1 n (and_parts (leb 1 n) (ltb n 32) (next_fits g s v)).0 in
    omega (arith, h, l, ap (λ i. (rule g i).left) z, s.zero_left)

module _ (g : Grammar) (fits : a_grammar g ≡ true) where
  one_more : (f h : List Sym) (x : Sym) → Alike g f h → SameItems g (onto (f ++ x ∷ []) []) (onto (h ++ x ∷ []) [])
  one_more f h x a r β t v =
      let w = by_kernel x (onto f []) (onto h []) (λ r β t y. alike_valid g fits f h a r (x ∷ β) t y) (onto_join f (x ∷ []) []) v in
      subst (λ k. Valid g k r β t) (sym (onto_join h (x ∷ []) [])) w

  first_only : (f : List Sym) (γ : List Sym) → onto f [] ≡ γ → Alike g [] f → f ≡ []
  first_only f [] e a = sym (onto_back f) ∙ ap (λ k. onto k []) e
  first_only f (x ∷ γ) e a = absurd (first_not_begun g (sizes g fits) x γ e refl refl (alike_valid g fits [] f a 0 (rule g 0).right 24 start))

pub alike_goes_on_lem : AlikeGoesOn
unfolding AlikeGoesOn
alike_goes_on_lem g f h x fits a =
    valid_alike g fits (f ++ x ∷ []) (h ++ x ∷ []) (one_more g fits f h x a) (one_more g fits h f x (alike_turned g fits f h a))

pub first_is_alone_lem : FirstIsAlone
unfolding FirstIsAlone
first_is_alone_lem g fits = (item_viable g fits [] (0, (rule g 0).right, 24, start), λ f a. first_only g fits f (onto f []) refl a)
