-- The computed productive names are exact: a name is marked if and only if it yields something.
use Rattle.std.proofs.Common.{◌≡◌, ℕ, ◌<◌, true, List, [], ◌∷◌, ◌++◌, length, sym, refl, ap, ◌∙◌}
use Rattle.std.proofs.lemmas.Bool.{and_parts, and_from}
use Rattle.words.specs.Bits.{has_bit}
use Rattle.grammar.specs.Grammar.{every, Sym, sign, name, Grammar, a_grammar, rule, in_grammar}
use Rattle.grammar.specs.Trees.{Yields, empty, leaf, node}
use Rattle.grammar.specs.Rows.{producing}
use Rattle.grammar.specs.Analysis.{productive}
use Rattle.grammar.proofs.Sizes.{sizes}
use Rattle.grammar.proofs.Trees.{yields_append}
use Rattle.grammar.proofs.Useful.{known, rows_come}
use Rattle.grammar.proofs.Rounds.{Marks, marked_sound, marked_closed}

abbrev pub Comes : Grammar → List Sym → Type 0
Comes g β = (v rs : List ℕ) × Yields g β v rs

producing_sound : (g : Grammar) (M : ℕ) → Marks (λ n. Comes g (name n ∷ [])) M → (β : List Sym) → producing M β ≡ true → Comes g β
unfolding producing
producing_sound g M s [] h = ([], [], empty)
producing_sound g M s (sign t ∷ β) h = let p = producing_sound g M s β h in (t ∷ p.0, p.1, leaf p.2)
producing_sound g M s (name n ∷ β) h =
    let k = and_parts (has_bit n M) (producing M β) h in
    let p = s n k.0 in
    let q = producing_sound g M s β k.1 in
    (p.0 ++ q.0, p.1 ++ q.1, yields_append p.2 q.2)

productive_sound : (g : Grammar) → Marks (λ n. Comes g (name n ∷ [])) (productive g)
unfolding productive
productive_sound g = marked_sound g producing (λ n. Comes g (name n ∷ [])) (λ k M lt s e.
    let p = producing_sound g M s (rule g k).right e in (p.0 ++ [], p.1 ++ k ∷ [], node k lt refl p.2 empty))

productive_closed : (g : Grammar) → a_grammar g ≡ true → (q : ℕ) → q < length g → producing (productive g) (rule g q).right ≡ true →
    has_bit (rule g q).left (productive g) ≡ true
unfolding productive
productive_closed g a q lt e = marked_closed g producing (sizes g a) q lt e

producing_complete : (g : Grammar) → a_grammar g ≡ true → {β : List Sym} {v rs : List ℕ} → Yields g β v rs → producing (productive g) β ≡ true
unfolding producing
producing_complete g a empty = refl
producing_complete g a (leaf D) = producing_complete g a D
producing_complete g a (node {n = n} {β = β} q lt l D₁ D₂) =
    let h = productive_closed g a q lt (producing_complete g a D₁) in
    and_from (has_bit n (productive g)) (producing (productive g) β) (ap (λ m. has_bit m (productive g)) (sym l) ∙ h) (producing_complete g a D₂)

pub productive_exact : (g : Grammar) → a_grammar g ≡ true → (n : ℕ) →
    (has_bit n (productive g) ≡ true → Comes g (name n ∷ [])) × (Comes g (name n ∷ []) → has_bit n (productive g) ≡ true)
unfolding producing
productive_exact g a n = (productive_sound g n, λ p. (and_parts (has_bit n (productive g)) true (producing_complete g a p.2)).0)

-- if all names of the grammar are productive, rows of them come to signs
pub all_produce : (g : Grammar) → ((n : ℕ) → in_grammar g n ≡ true → has_bit n (productive g) ≡ true) → (β : List Sym) → every (known g) β ≡ true → Comes g β
all_produce g all β h = rows_come g (λ n k. productive_sound g n (all n k)) β h
