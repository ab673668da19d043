-- Nullable rows are those that yield nothing, and the signs of FIRST are those that begin what a row yields.
use Rattle.std.proofs.Common.{◌≡◌, ℕ, true, List, [], ◌∷◌, ◌++◌, refl, ap, subst}
use Rattle.std.proofs.lemmas.Bool.{and_parts}
use Rattle.grammar.specs.Grammar.{every, Sym, sign, Grammar, in_grammar, AllUseful}
use Rattle.grammar.specs.Trees.{Yields, empty, leaf, node}
use Rattle.grammar.specs.First.{Vanishes, vanish_nil, vanish_name, Opens, open_sign, open_name, open_past, NullableExact, FirstExact}
use Rattle.grammar.proofs.Lists.{never, nil_parts}
use Rattle.grammar.proofs.Useful.{known, known_comes, part_known, right_known}

pub vanishes_of : {g : Grammar} {β : List Sym} {v rs : List ℕ} → v ≡ [] → Yields g β v rs → Vanishes g β
vanishes_of z empty = vanish_nil
vanishes_of z (leaf D) = never (cc)
vanishes_of z (node {u = u} {v = v} q lt l D₁ D₂) =
    let p = nil_parts u v z in vanish_name q lt l (vanishes_of p.0 D₁) (vanishes_of p.1 D₂)

pub of_vanishes : {g : Grammar} {β : List Sym} → Vanishes g β → (rs : List ℕ) × Yields g β [] rs
of_vanishes vanish_nil = ([], empty)
of_vanishes (vanish_name q lt l V W) = let a = of_vanishes V in let b = of_vanishes W in (a.0 ++ q ∷ b.0, node q lt l a.1 b.1)

pub opens_of : {g : Grammar} {β : List Sym} {v rs : List ℕ} (u : ℕ) (w : List ℕ) → v ≡ u ∷ w → Yields g β v rs → Opens g β u
opens_of u w z empty = never (cc)
opens_of {g} u w z (leaf {t} {β} D) = let e : t ≡ u = cc in subst (λ k. Opens g (sign t ∷ β) k) e open_sign
opens_of u w z (node {u = []} q lt l D₁ D₂) = open_past q lt l (vanishes_of refl D₁) (opens_of u w z D₂)
opens_of u w z (node {u = y ∷ x} q lt l D₁ D₂) = let e : y ≡ u = cc in open_name q lt l (opens_of u x (ap (λ k. k ∷ x) e) D₁)

-- the way back asks that the names be of use: what stands behind the opening sign must come to something
pub of_opens : (g : Grammar) → AllUseful g → {β : List Sym} {u : ℕ} → every (known g) β ≡ true → Opens g β u → (v rs : List ℕ) × Yields g β (u ∷ v) rs
unfolding every known
of_opens g useful h (open_sign {β = β}) = let p = known_comes g useful β h in (p.0, p.1, leaf p.2)
of_opens g useful h (open_name {n = n} {β = β} q lt l O) =
    let p = known_comes g useful β (and_parts (in_grammar g n) (every (known g) β) h).1 in
    let k = of_opens g useful (right_known g q) O in
    (k.0 ++ p.0, k.1 ++ q ∷ p.1, node q lt l k.2 p.2)
of_opens g useful h (open_past {n = n} {β = β} q lt l V O) =
    let k = of_opens g useful (and_parts (in_grammar g n) (every (known g) β) h).1 O in
    let a = of_vanishes V in
    (k.0, a.0 ++ q ∷ k.1, node q lt l a.1 k.2)

pub nullable_exact_lem : NullableExact
unfolding NullableExact
nullable_exact_lem g β = (of_vanishes, (λ p. vanishes_of refl p.1))

pub first_exact_lem : FirstExact
unfolding FirstExact
first_exact_lem g r u d β useful e = (of_opens g useful (part_known g r β d e), (λ p. opens_of u p.0 refl p.2))
