-- Completeness of items: at every name of a form its rules are valid, and every symbol before the end of the last rule used is next in some item.
use Rattle.std.proofs.Common.{◌≡◌, ℕ, ◌<◌, ◌⊎◌, List, [], ◌∷◌, ◌++◌, length, sym, refl, ap, ◌∙◌, subst, ap₂, subst₂, inl, inr, append_assoc}
use Rattle.grammar.specs.Grammar.{Sym, name, Grammar, rule, form, each, signs, comes_by}
use Rattle.grammar.specs.Trees.{Yields, empty}
use Rattle.grammar.proofs.Lists.{never}
use Rattle.grammar.proofs.Derivations.{first_step}
use Rattle.grammar.proofs.Trees.{yields_split, signs_yield, yields_signs, yields_unstep}
use Rattle.grammar.proofs.Sizes.{Sizes}
use Rattle.items.specs.Items.{onto, first_or, lookahead, Valid, start, close}
use Rattle.items.proofs.Stacks.{onto_join, lookahead_append}
use Rattle.items.proofs.Items.{advanced_by, advanced, Due, due_below}

-- one row split in two ways: x stands in the front, or in the rest
split_ways : {A : Type 0} (a : List A) (x : A) (c p q : List A) → a ++ x ∷ c ≡ p ++ q →
    ((p₁ : List A) × (p ≡ a ++ x ∷ p₁) × (c ≡ p₁ ++ q)) ⊎ ((d : List A) × (a ≡ p ++ d) × (q ≡ d ++ x ∷ c))
split_ways a x c [] q e = inr (a, refl, sym e)
split_ways [] x c (y ∷ p) q e = inl (p, cc, cc)
split_ways {A} (z ∷ a) x c (y ∷ p) q e = go (split_ways a x c p q (cc))
  where
    same : z ≡ y
    same = cc

    go : ((p₁ : List A) × (p ≡ a ++ x ∷ p₁) × (c ≡ p₁ ++ q)) ⊎ ((d : List A) × (a ≡ p ++ d) × (q ≡ d ++ x ∷ c)) →
        ((p₁ : List A) × (y ∷ p ≡ z ∷ a ++ x ∷ p₁) × (c ≡ p₁ ++ q)) ⊎ ((d : List A) × (z ∷ a ≡ y ∷ p ++ d) × (q ≡ d ++ x ∷ c))
    go (inl f) = inl (f.0, ap₂ (λ u v. u ∷ v) (sym same) f.1, f.2)
    go (inr f) = inr (f.0, ap₂ (λ u v. u ∷ v) same f.1, f.2)

no_name_in_signs : (w : List ℕ) (d : List Sym) (n : ℕ) (c : List Sym) → signs w ≡ d ++ name n ∷ c → ⊥
unfolding each
no_name_in_signs [] [] n c e = never (cc)
no_name_in_signs [] (x ∷ d) n c e = never (cc)
no_name_in_signs (t ∷ w) [] n c e = never (cc)
no_name_in_signs (t ∷ w) (x ∷ d) n c e = no_name_in_signs w d n c (cc)

-- at every name of the row f, whatever comes of what stands behind it, its rules are valid
abbrev pub CompleteAtNames : Grammar → List Sym → Type 0
CompleteAtNames g f =
    (a : List Sym) (n : ℕ) (c : List Sym) (x rs : List ℕ) (q : ℕ) → f ≡ a ++ name n ∷ c → Yields g c x rs → q < length g → (rule g q).left ≡ n →
    Valid g (onto a []) q (rule g q).right (lookahead x)

complete_start : (g : Grammar) → Sizes g → CompleteAtNames g (name 0 ∷ [])
complete_start g s [] n [] x rs q e empty lt l =
    let z : q ≡ 0 = s.zero_only q lt (cc) in
    subst (λ k. Valid g [] k (rule g k).right 24) (sym z) start
complete_start g s [] n (y ∷ c) x rs q e D lt l = never (cc)
complete_start g s (z ∷ []) n c x rs q e D lt l = never (cc)
complete_start g s (z ∷ y ∷ a) n c x rs q e D lt l = never (cc)

complete_step : (g : Grammar) (r : ℕ) (b : List Sym) (m : ℕ) (w : List ℕ) → r < length g → (rule g r).left ≡ m → CompleteAtNames g (b ++ name m ∷ signs w) →
    CompleteAtNames g (b ++ (rule g r).right ++ signs w)
complete_step g r b m w lr lm known a n c x rs q e D lt l =
    go (split_ways a (name n) c b (δ ++ signs w) (sym e ∙ append_assoc b δ (signs w)))
  where
    δ : List Sym
    δ = (rule g r).right

    inside : (d β : List Sym) → a ≡ b ++ d → (rule g r).right ≡ d ++ name n ∷ β → c ≡ β ++ signs w → Valid g (onto a []) q (rule g q).right (lookahead x)
    inside d β ea er ec =
        let v : Valid g (onto b []) r (rule g r).right (lookahead w) = known b m (signs w) w [] r refl (yields_signs w) lr lm in
        let v₁ : Valid g (onto d (onto b [])) r (name n ∷ β) (lookahead w) = advanced_by d (subst (λ k. Valid g (onto b []) r k (lookahead w)) er v) in
        let p = yields_split β {b = signs w} ec D in
        let s = signs_yield w refl p.5 in
        let v₂ = close q lt l v₁ p.4 in
        let ex : first_or p.0 (lookahead w) ≡ lookahead x =
        sym (lookahead_append p.0 w (lookahead w) refl) ∙ ap (λ k. lookahead (p.0 ++ k)) (sym s.0) ∙ ap lookahead (sym p.6) in
        let es : onto d (onto b []) ≡ onto a [] = sym (onto_join b d []) ∙ ap (λ k. onto k []) (sym ea) in
        subst₂ (λ st k. Valid g st q (rule g q).right k) es ex v₂

    before : (a₁ : List Sym) → b ≡ a ++ name n ∷ a₁ → c ≡ a₁ ++ ((rule g r).right ++ signs w) → Valid g (onto a []) q (rule g q).right (lookahead x)
    before a₁ eb ec =
        let D₁ : Yields g (a₁ ++ (rule g r).right ++ signs w) x rs =
        subst (λ k. Yields g k x rs) (ec ∙ sym (append_assoc a₁ (rule g r).right (signs w))) D in
        known a n (a₁ ++ name m ∷ signs w) x (rs ++ r ∷ []) q (ap (λ k. k ++ name m ∷ signs w) eb ∙ append_assoc a (name n ∷ a₁) (name m ∷ signs w))
        (yields_unstep g r a₁ m w lr lm D₁) lt l

    within : (d : List Sym) → a ≡ b ++ d →
        ((p₁ : List Sym) × ((rule g r).right ≡ d ++ name n ∷ p₁) × (c ≡ p₁ ++ signs w)) ⊎ ((d₁ : List Sym) × (d ≡ (rule g r).right ++ d₁) × (signs w ≡ d₁ ++ name n ∷ c)) →
        Valid g (onto a []) q (rule g q).right (lookahead x)
    within d ea (inl p) = inside d p.0 ea p.1 p.2
    within d ea (inr p) = absurd (no_name_in_signs w p.0 n c p.2)

    go : ((p₁ : List Sym) × (b ≡ a ++ name n ∷ p₁) × (c ≡ p₁ ++ (δ ++ signs w))) ⊎ ((d : List Sym) × (a ≡ b ++ d) × (δ ++ signs w ≡ d ++ name n ∷ c)) →
        Valid g (onto a []) q (rule g q).right (lookahead x)
    go (inl p) = before p.0 p.1 p.2
    go (inr p) = within p.0 p.1 (split_ways p.0 (name n) c (rule g r).right (signs w) (sym p.2))

-- what is so of a row stays so of what comes of it
complete_comes : (g : Grammar) (ds : List ℕ) (f h : List Sym) → CompleteAtNames g f → comes_by g ds (f ∷ []) ≡ h ∷ [] → CompleteAtNames g h
unfolding comes_by
complete_comes g [] f h known e = let e₁ : f ≡ h = cc in subst (λ k. CompleteAtNames g k) e₁ known
complete_comes g (r ∷ ds) f h known e =
    let p = first_step g r ds f h [] e in
    let s = p.1 in
    let known₁ = complete_step g r s.front s.it s.tail s.there s.fits (subst (λ k. CompleteAtNames g k) s.is known) in
    complete_comes g ds p.0 h (subst (λ k. CompleteAtNames g k) (sym s.gives) known₁) p.2

-- AT EVERY NAME of a form
pub complete_at_names : (g : Grammar) → Sizes g → (ds : List ℕ) (f : List Sym) → form g ds ≡ f ∷ [] → CompleteAtNames g f
complete_at_names g s ds f e = complete_comes g ds (name 0 ∷ []) f (complete_start g s) e

-- AT THE LAST NAME, behind which signs stand, a rule of that name is valid
pub complete : (g : Grammar) → Sizes g → (ds : List ℕ) (a : List Sym) (n : ℕ) (w : List ℕ) (q : ℕ) → form g ds ≡ (a ++ name n ∷ signs w) ∷ [] →
    q < length g → (rule g q).left ≡ n → Valid g (onto a []) q (rule g q).right (lookahead w)
complete g s ds a n w q e lt l = complete_at_names g s ds (a ++ name n ∷ signs w) e a n (signs w) w [] q refl (yields_signs w) lt l

-- and complete behind its whole right side
pub complete_end : (g : Grammar) → Sizes g → (ds : List ℕ) (a : List Sym) (n : ℕ) (w : List ℕ) (q : ℕ) → form g ds ≡ (a ++ name n ∷ signs w) ∷ [] →
    q < length g → (rule g q).left ≡ n → Valid g (onto (a ++ (rule g q).right) []) q [] (lookahead w)
complete_end g s ds a n w q e lt l =
    subst (λ k. Valid g k q [] (lookahead w)) (sym (onto_join a (rule g q).right [])) (advanced (rule g q).right (complete g s ds a n w q e lt l))

-- AT EVERY SYMBOL before the end of that rule, it is next
pub complete_due : (g : Grammar) → Sizes g → (ds : List ℕ) (a : List Sym) (n : ℕ) (w : List ℕ) (q : ℕ) → form g ds ≡ (a ++ name n ∷ signs w) ∷ [] →
    q < length g → (rule g q).left ≡ n → (b : List Sym) (x : Sym) (c : List Sym) → a ++ (rule g q).right ≡ b ++ x ∷ c → Due g (onto b []) x
complete_due g s ds a n w q e lt l b x c p =
    due_below c x (onto b []) (subst (λ k. Valid g k q [] (lookahead w)) (ap (λ k. onto k []) p ∙ onto_join b (x ∷ c) []) (complete_end g s ds a n w q e lt l))
