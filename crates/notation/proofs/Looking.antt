-- Lookups: what is found, and what is put into a table.
use Rattle.std.proofs.Common.{◌≡◌, ℕ, ◌<◌, ◌≤◌, ◌⊎◌, Bool, List, [], ◌∷◌, map, length, position, slice_get, get_or, option_copied, MatchOption, Bor, Option, Some, None, Decides, inl, inr, refl, sym, ap, ◌∙◌, arith}
use mathlib.Core.Bool.{false≢true}
use Rattle.std.proofs.lemmas.Grind.{common_steps}
use Rattle.std.proofs.lemmas.List.{get_or-map, get_or_past, length-map}
use Rattle.std.proofs.lemmas.List.Quantifiers.{position-Some}
use Rattle.std.proofs.lemmas.List.Sums.{fails_before_first}
use Rattle.std.proofs.lemmas.Option.{get_or_from_slice_get, slice_get_cases, slice_get_within}
use Rattle.std.specs.List.{position_or_len}
use Rattle.notation.specs.Lookups.{Finds}

-- the first place that passes a test is one where w stands, if the test says that it does
module _ {X Y : Type 0} (f : X → Y) (p : X → Bool) (w d : Y) (says : (x : X) → Decides (p x) (w ≡ f x)) where
  finds : (xs : List X) (r : Option ℕ) → position p xs ≡ r → Finds d (map f xs) w r
  finds [] (Some i) e = absurd (cc)
  finds [] None e = λ k l z. absurd (omega arith)
  finds (x ∷ xs) (Some i) e =
      let at = position-Some p (x ∷ xs) i x e in
      (omega (arith, at.0, length-map (x ∷ xs) f), get_or-map f (x ∷ xs) i x d at.0 ∙ sym ((says (get_or (x ∷ xs) i x)).0 at.1))
  finds (x ∷ xs) None e = λ k l z.
      let less : k < length (x ∷ xs) = omega (arith, l, length-map (x ∷ xs) f) in
      let far : length (x ∷ xs) ≤ position_or_len p (x ∷ xs) = grind (arith, common_steps) in
      false≢true (sym (fails_before_first p (x ∷ xs) k x (omega (arith, less, far))) ∙ (says (get_or (x ∷ xs) k x)).1 (sym z ∙ get_or-map f (x ∷ xs) k x d less))

  pub position_finds : (xs : List X) (r : Option ℕ) → r ≡ position p xs → Finds d (map f xs) w r
  position_finds xs r e = finds xs r (sym e)

-- what stands at a place
pub stands_there : {X Y : Type 0} (f : X → Y) (xs : List X) (i : ℕ) (x : X) (w d : Y) → slice_get xs i ≡ Some x → f x ≡ w → (i < length (map f xs)) × (get_or (map f xs) i d ≡ w)
stands_there f xs i x w d at e =
    let l : i < length xs = slice_get_within xs i x at in
    (omega (arith, length-map xs f), get_or-map f xs i x d l ∙ ap f (get_or_from_slice_get xs i x x at) ∙ e)

-- what is read at a place, or what stands for nothing
pub read_there : {X Y : Type 0} (f : X → Y) (xs : List X) (i : ℕ) (m d : Bor Y) (r : Option (Bor X)) (P : Bor X → Type 0) → option_copied r ≡ slice_get xs i → ((x : Bor X) → P x → m.now ≡ f x.now) → MatchOption r (m ≡ d) P → m.now ≡ get_or (map f xs) i d.now
read_there f xs i m d None P e says h =
    let far : length xs ≤ i = past (slice_get_cases xs i).1 in
    ap (λ z. z.now) h ∙ sym (get_or_past (map f xs) i d.now (omega (arith, length-map xs f, far)))
  where
    past : ((x : _) × (i < length xs) × (slice_get xs i ≡ Some x) × (get_or xs i x ≡ x)) ⊎ ((length xs ≤ i) × (slice_get xs i ≡ None)) → length xs ≤ i
    past (inl s) = absurd (let z = e ∙ s.2 in cc)
    past (inr s) = s.0
read_there f xs i m d (Some x) P e says h = says x h ∙ sym (stands_there f xs i x.now (f x.now) d.now (sym e) refl).1
