-- A grammar and its bytes, both ways: bytes that pass the test spell the grammar that they could be, and every grammar's spelling passes.
use Rattle.std.proofs.Common.{◌≡◌, ℕ, zero, suc, ◌+◌, ◌-◌, ◌<◌, ◌≤◌, Bool, true, false, ◌&&◌, eqb, ltb, leb, List, [], ◌∷◌, ◌++◌, length, take, drop, sym, refl, ap, ◌∙◌, subst, inl, inr, arith, length-append, take-append-drop, length-take-le, take_at, drop_at}
use mathlib.Core.Bool.{false≢true}
use Rattle.std.proofs.lemmas.Bool.{and_parts, and_from, ltb-true, leb-true, eqb-true, lt-ltb, le-ltb, le-leb, eq-eqb, cases_lt}
use Rattle.grammar.specs.Grammar.{every, each, none_of, added_up, Sym, sign, name, Rule, sym_fits, later_fit, begins_well, a_grammar}
use Rattle.grammar.specs.Spelling.{sym_spelled, flat, rule_spelled, grammar_spelled, sym_of, rules_of, grammar_of, byte_ok, first_ok, rules_ok, grammar_ok, Spells}
use Rattle.grammar.proofs.Sizes.{all_fit, symbol_count}

-- symbols and their bytes
pub sym_of_spelled : (s : Sym) → sym_fits s ≡ true → sym_of (sym_spelled s) ≡ s
unfolding sym_fits sym_spelled
sym_of_spelled (sign n) h = let k : n < 32 = omega (arith, ltb-true n 24 h) in rw (lt-ltb n 32 k)
sym_of_spelled (name n) h =
    let k : 32 ≤ 32 + n = omega arith in
    let e : 32 + n - 32 ≡ n = omega arith in
    rw (le-ltb (32 + n) 32 k, e)

sym_spelled_ok : (s : Sym) → sym_fits s ≡ true → byte_ok (sym_spelled s) ≡ true
unfolding sym_fits sym_spelled
sym_spelled_ok (sign n) h = rw h
sym_spelled_ok (name n) h =
    let p = and_parts (leb 1 n) (ltb n 32) h in
    let k : 24 ≤ 32 + n = omega arith in
    rw (le-ltb (32 + n) 24 k)
    (and_from _ _ (le-leb 33 (32 + n) (omega (arith, leb-true 1 n p.0))) (lt-ltb (32 + n) 64 (omega (arith, ltb-true n 32 p.1))))

byte_spelled : (b : ℕ) → byte_ok b ≡ true → (sym_spelled (sym_of b) ≡ b) × (sym_fits (sym_of b) ≡ true)
unfolding sym_fits sym_spelled
byte_spelled b h =
    elim (cases_lt b 24) [
      | inl k ↦ let j : b < 32 = omega arith in rw (lt-ltb b 32 j) (refl, lt-ltb b 24 k)
      | inr k ↦
          let p = and_parts (leb 33 b) (ltb b 64) (rw (le-ltb b 24 k) at h) in
          let low = leb-true 33 b p.0 in
          let high = ltb-true b 64 p.1 in
          let j : 32 ≤ b = omega arith in
          rw (le-ltb b 32 j) (omega arith, and_from _ _ (le-leb 1 (b - 32) (omega arith)) (lt-ltb (b - 32) 32 (omega arith)))
    ]

pub syms_of_spelled : (ss : List Sym) → every sym_fits ss ≡ true → each sym_of (each sym_spelled ss) ≡ ss
unfolding every each
syms_of_spelled [] h = refl
syms_of_spelled (s ∷ ss) h =
    let p = and_parts (sym_fits s) (every sym_fits ss) h in rw (sym_of_spelled s p.0, syms_of_spelled ss p.1)

spelled_ok : (ss : List Sym) → every sym_fits ss ≡ true → every byte_ok (each sym_spelled ss) ≡ true
unfolding every each
spelled_ok [] h = refl
spelled_ok (s ∷ ss) h =
    let p = and_parts (sym_fits s) (every sym_fits ss) h in and_from _ _ (sym_spelled_ok s p.0) (spelled_ok ss p.1)

bytes_spelled : (bs : List ℕ) → every byte_ok bs ≡ true → (each sym_spelled (each sym_of bs) ≡ bs) × (every sym_fits (each sym_of bs) ≡ true)
unfolding every each
bytes_spelled [] h = (refl, refl)
bytes_spelled (b ∷ bs) h =
    let p = and_parts (byte_ok b) (every byte_ok bs) h in
    let q = byte_spelled b p.0 in
    let r = bytes_spelled bs p.1 in
    (cc, and_from _ _ q.1 r.1)

pub length_each : {X Y : Type 0} (f : X → Y) (xs : List X) → length (each f xs) ≡ length xs
unfolding each
length_each f [] = refl
length_each f (x ∷ xs) = ap suc (length_each f xs)

-- rules and their bytes
rules_of_spelled : (g : List Rule) → all_fit g ≡ true → rules_of (length g) (flat rule_spelled g) ≡ g
unfolding every flat rules_of
rules_of_spelled [] h = refl
rules_of_spelled (r ∷ g) h =
    let p = and_parts (every sym_fits r.right) (all_fit g) h in
    let n = length_each sym_spelled r.right in
    rw (
      take_at (each sym_spelled r.right) (flat rule_spelled g) (length r.right) n,
      drop_at (each sym_spelled r.right) (flat rule_spelled g) (length r.right) n,
      syms_of_spelled r.right p.0,
      rules_of_spelled g p.1,
    )

rules_spelled_ok : (g : List Rule) (room : ℕ) → later_fit g ≡ true → all_fit g ≡ true → symbol_count g ≤ room → rules_ok (length g) room (flat rule_spelled g) ≡ true
unfolding every flat later_fit added_up rules_ok none_of
rules_spelled_ok [] room h k m = refl
rules_spelled_ok (r ∷ g) room h k m =
    let p = and_parts (leb 1 r.left && ltb r.left 32) (later_fit g) h in
    let q = and_parts (every sym_fits r.right) (all_fit g) k in
    let n = length_each sym_spelled r.right in
    let long : length r.right ≤ length (each sym_spelled r.right ++ flat rule_spelled g) =
    omega (arith, length-append (each sym_spelled r.right) (flat rule_spelled g)) in
    let small : length r.right ≤ room = omega arith in
    let rest : symbol_count g ≤ room - length r.right = omega arith in
    rw (
      take_at (each sym_spelled r.right) (flat rule_spelled g) (length r.right) n,
      drop_at (each sym_spelled r.right) (flat rule_spelled g) (length r.right) n,
    )
    (and_from _ _ (and_from _ _ p.0 (and_from _ _ (le-leb _ _ long) (le-leb _ _ small)))
    (and_from _ _ (spelled_ok r.right q.0) (rules_spelled_ok g (room - length r.right) p.1 q.1 rest)))

record RulesSpelled (n room : ℕ) (bs : List ℕ) (g : List Rule) : Type 0 where
  pub same : flat rule_spelled g ≡ bs
  pub many : length g ≡ n
  pub later : later_fit g ≡ true
  pub fit : all_fit g ≡ true
  pub few : symbol_count g ≤ room

rules_spelled : (n room : ℕ) (bs : List ℕ) → rules_ok n room bs ≡ true → RulesSpelled n room bs (rules_of n bs)
unfolding every flat later_fit added_up rules_ok none_of rules_of
rules_spelled zero room [] h = record { same = refl; many = refl; later = refl; fit = refl; few = omega arith }
rules_spelled zero room (b ∷ bs) h = absurd (false≢true h)
rules_spelled (suc n) room [] h = absurd (false≢true h)
rules_spelled (suc n) room (l ∷ []) h = absurd (false≢true h)
rules_spelled (suc n) room (l ∷ c ∷ bs) h =
    let p = and_parts _ _ h in
    let p0 = and_parts _ _ p.0 in
    let p1 = and_parts _ _ p.1 in
    let sizes = and_parts _ _ p0.1 in
    let long = leb-true c (length bs) sizes.0 in
    let small = leb-true c room sizes.1 in
    let q = bytes_spelled (take c bs) p1.0 in
    let t = rules_spelled n (room - c) (drop c bs) p1.1 in
    let e : length (each sym_of (take c bs)) ≡ c = length_each sym_of (take c bs) ∙ length-take-le c bs long in
    record {
      same = rw (e, q.0, t.same, take-append-drop c bs);
      many = ap suc t.many;
      later = and_from _ _ p0.0 t.later;
      fit = and_from _ _ q.1 t.fit;
      few = omega (arith, e, t.few);
    }

-- a grammar and its bytes
first_rule_lem : (n l c s : ℕ) (bs : List ℕ) → l ≡ 0 → c ≡ 1 →
    grammar_of (suc n ∷ l ∷ c ∷ s ∷ bs) ≡ record { left = 0; right = sym_of s ∷ [] } ∷ rules_of n bs
unfolding grammar_of rules_of each
first_rule_lem n l c s bs el ec = rw (el, ec)

with_first : (n l c s : ℕ) (bs : List ℕ) → l ≡ 0 → c ≡ 1 → suc n ≤ 64 → (sym_spelled (sym_of s) ≡ s) × (sym_fits (sym_of s) ≡ true) → (g : List Rule) → RulesSpelled n 127 bs g →
    (a_grammar (record { left = 0; right = sym_of s ∷ [] } ∷ g) ≡ true)
    × (grammar_spelled (record { left = 0; right = sym_of s ∷ [] } ∷ g) ≡ suc n ∷ l ∷ c ∷ s ∷ bs)
unfolding flat each begins_well every added_up
with_first n l c s bs el ec few b g t =
    let many : suc (length g) ≤ 64 = omega (arith, t.many) in
    let size : 1 + symbol_count g ≤ 128 = omega (arith, t.few) in (
      and_from _ _ (and_from _ _ t.later (le-leb _ _ many))
          (and_from _ _ (and_from _ _ (and_from _ _ b.1 refl) t.fit) (le-leb _ _ size)),
      (cc),
    )

pub grammar_said : (bs : List ℕ) → grammar_ok bs ≡ true → (a_grammar (grammar_of bs) ≡ true) × (grammar_spelled (grammar_of bs) ≡ bs)
unfolding grammar_ok
grammar_said [] h = absurd (false≢true h)
grammar_said (n ∷ []) h = absurd (false≢true h)
grammar_said (n ∷ l ∷ []) h = absurd (false≢true h)
grammar_said (n ∷ l ∷ c ∷ []) h = absurd (false≢true h)
grammar_said (zero ∷ l ∷ c ∷ s ∷ bs) h = absurd (false≢true h)
grammar_said (suc n ∷ l ∷ c ∷ s ∷ bs) h =
    let p = and_parts (first_ok (suc n) l c s) (rules_ok (suc n - 1) 127 bs) h in
    let head = and_parts (leb 1 (suc n) && leb (suc n) 64) ((eqb l 0 && eqb c 1) && byte_ok s) p.0 in
    let many = and_parts (leb 1 (suc n)) (leb (suc n) 64) head.0 in
    let first = and_parts (eqb l 0 && eqb c 1) (byte_ok s) head.1 in
    let sizes = and_parts (eqb l 0) (eqb c 1) first.0 in
    let el = eqb-true l 0 sizes.0 in
    let ec = eqb-true c 1 sizes.1 in
    let en : suc n - 1 ≡ n = omega arith in
    let t = rules_spelled n 127 bs (subst (λ (k : ℕ). rules_ok k 127 bs ≡ true) en p.1) in
    let b = byte_spelled s first.1 in
    rw (first_rule_lem n l c s bs el ec) (with_first n l c s bs el ec (leb-true (suc n) 64 many.1) b _ t)

record BeginsWell (r : Rule) (g : List Rule) : Type 0 where
  pub start : r.left ≡ 0
  pub one : length r.right ≡ 1
  pub later : later_fit g ≡ true
  pub many : suc (length g) ≤ 64
  pub first_fit : every sym_fits r.right ≡ true
  pub fit : all_fit g ≡ true
  pub few : length r.right + symbol_count g ≤ 128

begins : (r : Rule) (g : List Rule) → a_grammar (r ∷ g) ≡ true → BeginsWell r g
unfolding begins_well every added_up
begins r g h =
    let p = and_parts (begins_well (r ∷ g) && leb (suc (length g)) 64) _ h in
    let p0 = and_parts (begins_well (r ∷ g)) (leb (suc (length g)) 64) p.0 in
    let p1 = and_parts (all_fit (r ∷ g)) (leb (symbol_count (r ∷ g)) 128) p.1 in
    let b = and_parts (eqb r.left 0) (eqb (length r.right) 1 && later_fit g) p0.0 in
    let b1 = and_parts (eqb (length r.right) 1) (later_fit g) b.1 in
    let f = and_parts (every sym_fits r.right) (all_fit g) p1.0 in
    record {
      start = eqb-true _ _ b.0;
      one = eqb-true _ _ b1.0;
      later = b1.1;
      many = leb-true _ _ p0.1;
      first_fit = f.0;
      fit = f.1;
      few = leb-true _ _ p1.1;
    }

first_spelled : (l : ℕ) (ss : List Sym) (g : List Rule) → BeginsWell (record { left = l; right = ss }) g →
    grammar_ok (suc (length g) ∷ l ∷ length ss ∷ each sym_spelled ss ++ flat rule_spelled g) ≡ true
unfolding every each grammar_ok
first_spelled l [] g h = absurd (omega (arith, h.one))
first_spelled l (s ∷ []) g h =
    let en : suc (length g) - 1 ≡ length g = omega arith in
    let few : symbol_count g ≤ 127 = omega (arith, h.few) in
    let f = and_parts (sym_fits s) true h.first_fit in
    rw en
    (and_from _ _
    (and_from _ _ (and_from _ _ (le-leb _ _ (omega arith)) (le-leb _ _ h.many))
    (and_from _ _ (and_from _ _ (eq-eqb _ _ h.start) refl) (sym_spelled_ok s f.0)))
    (rules_spelled_ok g 127 h.later h.fit few))
first_spelled l (s ∷ s₁ ∷ ss) g h = absurd (omega (arith, h.one))

pub grammar_back : (g : List Rule) → a_grammar g ≡ true → (grammar_ok (length g ∷ flat rule_spelled g) ≡ true) × (grammar_of (length g ∷ flat rule_spelled g) ≡ g)
unfolding begins_well flat grammar_of every
grammar_back [] h = absurd (false≢true h)
grammar_back (r ∷ g) h =
    let b = begins r g h in
    (first_spelled r.left r.right g b, rules_of_spelled (r ∷ g) (and_from _ _ b.first_fit b.fit))

-- what the answer means
pub spells : (bs : List ℕ) (b : Bool) → b ≡ grammar_ok bs → Spells b bs
unfolding Spells
spells bs true e = grammar_said bs (sym e)
spells bs false e = λ g fits same. absurd (false≢true (e ∙ ap grammar_ok (sym same) ∙ (grammar_back g fits).0))
