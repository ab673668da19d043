-- What the sizes of a grammar say, once read off its test.
use Rattle.std.proofs.Common.{◌≡◌, ℕ, zero, suc, ◌<◌, ◌≤◌, Bool, true, ◌&&◌, eqb, ltb, leb, List, [], ◌∷◌, length, refl, arith}
use Rattle.std.proofs.lemmas.Bool.{and_parts, eqb-true, ltb-true, leb-true}
use Rattle.grammar.specs.Grammar.{every, added_up, Rule, Grammar, rule, sym_fits, later_fit, begins_well, a_grammar}
use Rattle.grammar.proofs.Lists.{never}

abbrev pub all_fit : Grammar → Bool
all_fit g = every (λ r. every sym_fits r.right) g

-- how many symbols stand on right sides
abbrev pub symbol_count : Grammar → ℕ
symbol_count g = added_up (λ r. length r.right) g

pub record Sizes (g : Grammar) : Type 0 where
  pub begins_so : begins_well g ≡ true
  pub rules : 0 < length g
  pub zero_left : (rule g 0).left ≡ 0
  pub zero_only : (q : ℕ) → q < length g → (rule g q).left ≡ 0 → q ≡ 0
  pub left_below : (q : ℕ) → q < length g → (rule g q).left < 32
  pub many : length g ≤ 64
  pub few : symbol_count g ≤ 128
  pub fitting : all_fit g ≡ true

pub right_fits : (g : Grammar) (r : ℕ) → r < length g → all_fit g ≡ true → every sym_fits (rule g r).right ≡ true
unfolding every rule
right_fits [] r h k = absurd (omega arith)
right_fits (x ∷ g) zero h k = (and_parts (every sym_fits x.right) (all_fit g) k).0
right_fits (x ∷ g) (suc r) h k = right_fits g r (omega arith) (and_parts (every sym_fits x.right) (all_fit g) k).1

-- name 0 is of the first rule only
later_left : (rs : List Rule) → later_fit rs ≡ true → (q : ℕ) → q < length rs → (1 ≤ (rule rs q).left) × ((rule rs q).left < 32)
unfolding later_fit rule
later_left [] h q lt = absurd (omega arith)
later_left (r ∷ rs) h zero lt =
    let p = and_parts (leb 1 r.left && ltb r.left 32) (later_fit rs) h in
    let k = and_parts (leb 1 r.left) (ltb r.left 32) p.0 in
    (leb-true 1 r.left k.0, ltb-true r.left 32 k.1)
later_left (r ∷ rs) h (suc q) lt =
    later_left rs (and_parts (leb 1 r.left && ltb r.left 32) (later_fit rs) h).1 q (omega arith)

begins : (g : Grammar) → begins_well g ≡ true →
    (0 < length g) × ((rule g 0).left ≡ 0) × ((q : ℕ) → q < length g → (rule g q).left ≡ 0 → q ≡ 0) × ((q : ℕ) → q < length g → (rule g q).left < 32)
unfolding begins_well rule
begins [] h = never (cc)
begins (r ∷ rs) h = (omega arith, eqb-true r.left 0 p.0, only, below)
  where
    p : (eqb r.left 0 ≡ true) × ((eqb (length r.right) 1 && later_fit rs) ≡ true)
    p = and_parts (eqb r.left 0) (eqb (length r.right) 1 && later_fit rs) h

    later : (q : ℕ) → q < length rs → (1 ≤ (rule rs q).left) × ((rule rs q).left < 32)
    later q lt = later_left rs (and_parts (eqb (length r.right) 1) (later_fit rs) p.1).1 q lt

    only : (q : ℕ) → q < length (r ∷ rs) → (rule (r ∷ rs) q).left ≡ 0 → q ≡ 0
    only zero lt e = refl
    only (suc q) lt e = let k = (later q (omega arith)).0 in omega arith

    below : (q : ℕ) → q < length (r ∷ rs) → (rule (r ∷ rs) q).left < 32
    below zero lt = let k = eqb-true r.left 0 p.0 in omega arith
    below (suc q) lt = (later q (omega arith)).1

pub sizes : (g : Grammar) → a_grammar g ≡ true → Sizes g
sizes g h =
    let p = and_parts (begins_well g && leb (length g) 64) (all_fit g && leb (symbol_count g) 128) h in
    let q = and_parts (begins_well g) (leb (length g) 64) p.0 in
    let s = and_parts (all_fit g) (leb (symbol_count g) 128) p.1 in
    let b = begins g q.0 in
    record { begins_so = q.0; rules = b.0; zero_left = b.1; zero_only = b.2; left_below = b.3; many = leb-true (length g) 64 q.1; few = leb-true (symbol_count g) 128 s.1; fitting = s.0 }
