-- The names that stand in a row, and in the grammar: the marks are exact.
use Rattle.std.proofs.Common.{◌≡◌, ℕ, zero, suc, ◌^◌, ◌<◌, Bool, true, false, eqb, ltb, leb, ◌⊎◌, List, [], ◌∷◌, ◌++◌, length, sym, refl, ap, ◌∙◌, subst, inl, inr, ⊎_elim, arith, lit<}
use lib.Bits.{bit_or}
use Rattle.std.proofs.lemmas.Nat.{or_lt}
use Rattle.std.proofs.lemmas.Bool.{and_parts, ltb-true, eqb-true, eq-eqb, cases_eq, or_cases, or_left, or_right, false≢true}
use Rattle.words.specs.Bits.{has_bit, bit_of}
use Rattle.words.specs.Iter.{counted}
use Rattle.words.proofs.BitLaws.{has_or, has_zero, bit_of_below}
use Rattle.words.proofs.Fixpoint.{counted_keeps}
use Rattle.grammar.specs.Grammar.{or, every, any, Sym, sign, name, Grammar, a_grammar, rule, sym_fits, is_name, in_grammar}
use Rattle.grammar.specs.Rows.{named}
use Rattle.grammar.specs.Analysis.{names_in}
use Rattle.grammar.proofs.Lists.{or_either, any_at, every_at}
use Rattle.grammar.proofs.Sizes.{sizes, right_fits}
use Rattle.grammar.proofs.Useful.{left_in, right_in}
use Rattle.grammar.proofs.Rounds.{Marks, marks_or, of_bit, bit_itself}

-- ---- the names of a row

abbrev pub StandsAt : ℕ → List Sym → Type 0
StandsAt n β = (d e : List Sym) × (β ≡ d ++ name n ∷ e)

pub named_fits : (β : List Sym) → named β < 2 ^ 64
unfolding named
named_fits [] = lit< tt
named_fits (sign t ∷ β) = named_fits β
named_fits (name n ∷ β) = or_lt 64 (bit_of n) (named β) (bit_of_below n) (named_fits β)

pub named_stands : (β : List Sym) (n : ℕ) → has_bit n (named β) ≡ true → StandsAt n β
unfolding named
named_stands [] n h = absurd (false≢true (sym (has_zero n) ∙ h))
named_stands (sign t ∷ β) n h = let p = named_stands β n h in (sign t ∷ p.0, p.1, ap (λ l. sign t ∷ l) p.2)
named_stands (name m ∷ β) n h =
    ⊎_elim (λ p. ([], β, ap (λ k. name k ∷ β) (sym (of_bit n m p)))) (λ p. let k = named_stands β n p in (name m ∷ k.0, k.1, ap (λ l. name m ∷ l) k.2))
    (or_cases (has_bit n (bit_of m)) (has_bit n (named β)) (sym (has_or n (bit_of m) (named β)) ∙ h))

pub named_has : (d e : List Sym) (n : ℕ) → n < 64 → has_bit n (named (d ++ name n ∷ e)) ≡ true
unfolding named
named_has [] e n l = has_or n (bit_of n) (named e) ∙ or_left (has_bit n (bit_of n)) (has_bit n (named e)) (bit_itself n l)
named_has (sign t ∷ d) e n l = named_has d e n l
named_has (name m ∷ d) e n l =
    has_or n (bit_of m) (named (d ++ name n ∷ e)) ∙ or_right (has_bit n (bit_of m)) (has_bit n (named (d ++ name n ∷ e))) (named_has d e n l)

-- ---- the names of the grammar

-- the name is a rule's, or stands on its right side
abbrev InRule : Grammar → ℕ → ℕ → Type 0
InRule g n k = ((rule g k).left ≡ n) ⊎ StandsAt n (rule g k).right

any_stands : (β : List Sym) (n : ℕ) → any (is_name n) β ≡ true → StandsAt n β
unfolding any is_name
any_stands [] n h = absurd (false≢true h)
any_stands (sign t ∷ β) n h = let p = any_stands β n h in (sign t ∷ p.0, p.1, ap (λ l. sign t ∷ l) p.2)
any_stands (name m ∷ β) n h =
    ⊎_elim (λ p. ([], β, ap (λ k. name k ∷ β) (sym (eqb-true n m p)))) (λ p. let k = any_stands β n p in (name m ∷ k.0, k.1, ap (λ l. name m ∷ l) k.2))
    (or_either (eqb n m) (any (is_name n) β) h)

in_grammar_at : (g : Grammar) (n : ℕ) → in_grammar g n ≡ true → (k : ℕ) × (k < length g) × InRule g n k
unfolding any rule
in_grammar_at [] n h = absurd (false≢true h)
in_grammar_at (r ∷ g) n h =
    ⊎_elim
    (λ p. (0, omega arith, ⊎_elim (λ q. inl (eqb-true r.left n q)) (λ q. inr (any_stands r.right n q)) (or_either (eqb r.left n) (any (is_name n) r.right) p)))
    (λ p. let k = in_grammar_at g n p in (suc k.0, omega (arith, k.1), k.2))
    (or_either (or (eqb r.left n) (any (is_name n) r.right)) (in_grammar g n) h)

pub name_fits : (n : ℕ) → sym_fits (name n) ≡ true → n < 32
unfolding sym_fits
name_fits n h = ltb-true n 32 (and_parts (leb 1 n) (ltb n 32) h).1

pub in_grammar_below : (g : Grammar) → a_grammar g ≡ true → (n : ℕ) → in_grammar g n ≡ true → n < 32
in_grammar_below g a n h = let p = in_grammar_at g n h in go p.0 p.1 p.2
  where
    go : (k : ℕ) → k < length g → InRule g n k → n < 32
    go k lt (inl e) = subst (λ m. m < 32) e ((sizes g a).left_below k lt)
    go k lt (inr s) = name_fits n (every_at sym_fits s.0 (name n) s.1 (subst (λ x. every sym_fits x ≡ true) s.2 (right_fits g k lt (sizes g a).fitting)))

both_true : (x y : Bool) → (x ≡ true → y ≡ true) → (y ≡ true → x ≡ true) → x ≡ y
both_true true y f b = sym (f refl)
both_true false true f b = b refl
both_true false false f b = refl

-- the masks of all rules together
adds_has : (mask : ℕ → ℕ) (t n k : ℕ) → k < n → has_bit t (mask k) ≡ true → has_bit t (counted n (λ k M. bit_or M (mask k)) 0) ≡ true
unfolding counted
adds_has mask t zero k lt h = absurd (omega arith)
adds_has mask t (suc n) k lt h =
    has_or t (counted n (λ k M. bit_or M (mask k)) 0) (mask n)
    ∙ ⊎_elim (λ e. or_right _ (has_bit t (mask n)) (ap (λ j. has_bit t (mask j)) (sym e) ∙ h))
    (λ e. or_left _ (has_bit t (mask n)) (adds_has mask t n k (omega arith) h))
    (cases_eq k n)

abbrev rule_names : Grammar → ℕ → ℕ
rule_names g k = bit_or (bit_of (rule g k).left) (named (rule g k).right)

names_sound : (g : Grammar) → Marks (λ n. in_grammar g n ≡ true) (names_in g)
unfolding names_in is_name
names_sound g =
    counted_keeps (Marks (λ n. in_grammar g n ≡ true)) (λ k M. bit_or M (rule_names g k)) (length g)
    (λ k M lt s. marks_or _ M (rule_names g k) s (marks_or _ (bit_of (rule g k).left) (named (rule g k).right) (at_left k lt) (at_right k))) 0
    (λ n h. absurd (false≢true (sym (has_zero n) ∙ h)))
  where
    at_left : (k : ℕ) → k < length g → Marks (λ n. in_grammar g n ≡ true) (bit_of (rule g k).left)
    at_left k lt n h = subst (λ m. in_grammar g m ≡ true) (sym (of_bit n (rule g k).left h)) (left_in g k lt)

    at_right : (k : ℕ) → Marks (λ n. in_grammar g n ≡ true) (named (rule g k).right)
    at_right k n h =
        let p = named_stands (rule g k).right n h in
        right_in g k n (ap (any (is_name n)) p.2 ∙ any_at (is_name n) p.0 (name n) p.1 (eq-eqb n n refl))

names_complete : (g : Grammar) → a_grammar g ≡ true → (n : ℕ) → in_grammar g n ≡ true → has_bit n (names_in g) ≡ true
unfolding names_in
names_complete g a n h = let p = in_grammar_at g n h in adds_has (rule_names g) n (length g) p.0 p.1 (go p.0 p.2)
  where
    below : n < 64
    below = omega (arith, in_grammar_below g a n h)

    go : (k : ℕ) → InRule g n k → has_bit n (rule_names g k) ≡ true
    go k (inl e) =
        has_or n (bit_of (rule g k).left) (named (rule g k).right) ∙ or_left _ _ (ap (λ m. has_bit n (bit_of m)) e ∙ bit_itself n below)
    go k (inr s) =
        has_or n (bit_of (rule g k).left) (named (rule g k).right) ∙ or_right _ _ (ap (λ β. has_bit n (named β)) s.2 ∙ named_has s.0 s.1 n below)

pub names_in_exact : (g : Grammar) → a_grammar g ≡ true → (n : ℕ) → has_bit n (names_in g) ≡ in_grammar g n
names_in_exact g a n = both_true (has_bit n (names_in g)) (in_grammar g n) (names_sound g n) (names_complete g a n)

pub names_in_fits : (g : Grammar) → names_in g < 2 ^ 64
unfolding names_in
names_in_fits g =
    counted_keeps (λ M. M < 2 ^ 64) (λ k M. bit_or M (rule_names g k)) (length g)
    (λ k M _ h. or_lt 64 M (rule_names g k) h (or_lt 64 (bit_of (rule g k).left) (named (rule g k).right) (bit_of_below (rule g k).left) (named_fits (rule g k).right)))
    0 (lit< tt)
