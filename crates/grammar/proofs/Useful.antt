-- If every name is of use, whatever stands in a form or on a right side yields a text.
use Rattle.std.proofs.Common.{◌≡◌, ℕ, zero, suc, ◌<◌, Bool, true, eqb, List, [], ◌∷◌, ◌++◌, length, refl, subst, arith}
use Rattle.std.proofs.lemmas.Bool.{and_parts, and_from, eq-eqb}
use Rattle.grammar.specs.Grammar.{or, every, any, backwards, Sym, sign, name, Rule, Grammar, rule, is_name, in_grammar, AllUseful, Useful}
use Rattle.grammar.specs.Trees.{Yields, empty, leaf}
use Rattle.grammar.proofs.Lists.{or_left, or_right, every_parts}
use Rattle.grammar.proofs.Trees.{tree_of, yields_append}

-- a sign, or a name of the grammar
unfoldable pub known : Grammar → Sym → Bool
known g (sign n) = true
known g (name n) = in_grammar g n

-- a name stands in a rule
abbrev stands_in : ℕ → Rule → Bool
stands_in n r = or (eqb r.left n) (any (is_name n) r.right)

pub right_in : (g : Grammar) (k n : ℕ) → any (is_name n) (rule g k).right ≡ true → in_grammar g n ≡ true
unfolding rule any
right_in [] k n h = h
right_in (r ∷ g) zero n h = or_left (stands_in n r) (in_grammar g n) (or_right (eqb r.left n) (any (is_name n) r.right) h)
right_in (r ∷ g) (suc k) n h = or_right (stands_in n r) (in_grammar g n) (right_in g k n h)

pub left_in : (g : Grammar) (k : ℕ) → k < length g → in_grammar g (rule g k).left ≡ true
unfolding rule any
left_in [] k l = absurd (omega arith)
left_in (r ∷ g) zero l =
    or_left (stands_in r.left r) (in_grammar g r.left) (or_left (eqb r.left r.left) (any (is_name r.left) r.right) (eq-eqb r.left r.left refl))
left_in (r ∷ g) (suc k) l = or_right (stands_in (rule g k).left r) (in_grammar g (rule g k).left) (left_in g k (omega arith))

all_known : (g : Grammar) (f : List Sym) → ((n : ℕ) → any (is_name n) f ≡ true → in_grammar g n ≡ true) → every (known g) f ≡ true
unfolding every any is_name known
all_known g [] h = refl
all_known g (sign n ∷ f) h = all_known g f h
all_known g (name n ∷ f) h =
    and_from (in_grammar g n) (every (known g) f) (h n (or_left (eqb n n) (any (is_name n) f) (eq-eqb n n refl)))
    (all_known g f (λ m p. h m (or_right (eqb m n) (any (is_name m) f) p)))

pub right_known : (g : Grammar) (r : ℕ) → every (known g) (rule g r).right ≡ true
right_known g r = all_known g (rule g r).right (right_in g r)

-- and each part of it
pub part_known : (g : Grammar) (r : ℕ) (β d : List Sym) → (rule g r).right ≡ d ++ β → every (known g) β ≡ true
part_known g r β d e = (every_parts (known g) d β (subst (λ x. every (known g) x ≡ true) e (right_known g r))).1

-- if something comes of every name, something comes of every row
pub rows_come : (g : Grammar) → ((n : ℕ) → in_grammar g n ≡ true → (v rs : List ℕ) × Yields g (name n ∷ []) v rs) →
    (f : List Sym) → every (known g) f ≡ true → (v rs : List ℕ) × Yields g f v rs
unfolding every known
rows_come g comes [] h = ([], [], empty)
rows_come g comes (sign t ∷ f) h = let p = rows_come g comes f h in (t ∷ p.0, p.1, leaf p.2)
rows_come g comes (name n ∷ f) h =
    let k = and_parts (in_grammar g n) (every (known g) f) h in
    let p = rows_come g comes f k.1 in
    let q = comes n k.0 in
    (q.0 ++ p.0, q.1 ++ p.1, yields_append q.2 p.2)

pub useful_comes : (g : Grammar) (n : ℕ) → Useful g n → (v rs : List ℕ) × Yields g (name n ∷ []) v rs
unfolding Useful
useful_comes g n u = (u.2, backwards u.1, tree_of g u.1 (name n ∷ []) u.2 u.6)

module _ (g : Grammar) (useful : AllUseful g) where
  pub name_comes : (n : ℕ) → in_grammar g n ≡ true → (v rs : List ℕ) × Yields g (name n ∷ []) v rs
  unfolding AllUseful
  name_comes n h = useful_comes g n (useful n h)

  pub known_comes : (f : List Sym) → every (known g) f ≡ true → (v rs : List ℕ) × Yields g f v rs
  known_comes f h = rows_come g name_comes f h

  pub part_comes : (r : ℕ) (β d : List Sym) → (rule g r).right ≡ d ++ β → (v rs : List ℕ) × Yields g β v rs
  part_comes r β d e = known_comes β (part_known g r β d e)
