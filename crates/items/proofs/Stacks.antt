-- Laws of stacks, and of the lookahead of a row of signs.
use Rattle.std.proofs.Common.{◌≡◌, ℕ, ◌+◌, List, [], ◌∷◌, ◌++◌, length, refl, ◌∙◌, append-nil, arith}
use Rattle.grammar.specs.Grammar.{each, signs, look}
use Rattle.items.specs.Items.{onto, first_or, lookahead}

pub onto_cancel : {A : Type 0} (β : List A) (γ δ : List A) → onto β γ ≡ onto β δ → γ ≡ δ
onto_cancel [] γ δ e = e
onto_cancel (x ∷ β) γ δ e = let e₁ : x ∷ γ ≡ x ∷ δ = onto_cancel β (x ∷ γ) (x ∷ δ) e in cc

pub onto_append : {A : Type 0} (γ β δ : List A) → onto γ β ++ δ ≡ onto γ (β ++ δ)
onto_append [] β δ = refl
onto_append (x ∷ γ) β δ = onto_append γ (x ∷ β) δ

pub onto_onto : {A : Type 0} (β γ δ : List A) → onto (onto β γ) δ ≡ onto γ (β ++ δ)
onto_onto [] γ δ = refl
onto_onto (x ∷ β) γ δ = onto_onto β (x ∷ γ) δ

pub onto_join : {A : Type 0} (α β γ : List A) → onto (α ++ β) γ ≡ onto β (onto α γ)
onto_join [] β γ = refl
onto_join (x ∷ α) β γ = onto_join α β (x ∷ γ)

pub length_onto : {A : Type 0} (β γ : List A) → length (onto β γ) ≡ length β + length γ
length_onto [] γ = omega arith
length_onto (x ∷ β) γ = let h = length_onto β (x ∷ γ) in omega arith

-- a row is a stack upside down, and the other way round
pub onto_back : {A : Type 0} (γ : List A) → onto (onto γ []) [] ≡ γ
onto_back γ = onto_onto γ [] [] ∙ append-nil γ

-- of what is left, only its first sign is seen
pub lookahead_same : (us ρ σ : List ℕ) → lookahead ρ ≡ lookahead σ → lookahead (us ++ ρ) ≡ lookahead (us ++ σ)
lookahead_same [] ρ σ e = e
lookahead_same (u ∷ us) ρ σ e = refl

pub lookahead_append : (v w : List ℕ) (t : ℕ) → lookahead w ≡ t → lookahead (v ++ w) ≡ first_or v t
lookahead_append [] w t e = e
lookahead_append (x ∷ v) w t e = refl

pub first_or_append : (u v : List ℕ) (t : ℕ) → first_or (u ++ v) t ≡ first_or u (first_or v t)
first_or_append [] v t = refl
first_or_append (x ∷ u) v t = refl

pub look_signs : (w : List ℕ) → look (signs w) ≡ lookahead w
unfolding look each
look_signs [] = refl
look_signs (t ∷ w) = refl
