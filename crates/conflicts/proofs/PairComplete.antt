-- The fixpoint of the rounds on pairs has the bits of every two items that share a stack.
--     Held      the words have the bits of two places, each before its lookahead
--     pairs_complete      two items that share a stack have places, and the pairs of the grammar hold these
use Rattle.std.proofs.Common.{◌≡◌, ℕ, suc, ◌+◌, ◌^◌, ◌<◌, true, ◌&&◌, eqb, ltb, List, ◌∷◌, length, get_or, drop, sym, ap, ◌∙◌, subst, ⊎_elim, arith, lit<}
use mathlib.Core.Bool.{false≢true}
use lib.Bits.{bit_and}
use Rattle.std.proofs.lemmas.Nat.{mod_below}
use Rattle.std.proofs.lemmas.Bool.{and_from, or_left, or_right, eq-eqb, lt-ltb, cases_lt}
use Rattle.words.specs.Bits.{has_bit}
use Rattle.words.specs.Rows.{or_at}
use Rattle.words.proofs.BitLaws.{has_or, has_and, has_past, has_nonzero}
use Rattle.words.proofs.RowLaws.{or_at_rest}
use Rattle.grammar.specs.Grammar.{pick, Sym, name, Grammar, rule, a_grammar}
use Rattle.grammar.specs.Places.{places, rest, first_place_lem, next_code, At}
use Rattle.grammar.specs.Trees.{Yields}
use Rattle.grammar.specs.Rows.{begins_with}
use Rattle.grammar.specs.Analysis.{behind, passes}
use Rattle.grammar.proofs.Places.{place_zero, place_first, place_next, places_bound, rest_fits}
use Rattle.grammar.proofs.FirstKnown.{FirstKnown}
use Rattle.items.specs.First.{InFirst}
use Rattle.items.specs.Items.{first_or}
use Rattle.items.proofs.First.{in_first_of}
use Rattle.items.proofs.Begun.{begins_with_name}
use Rattle.conflicts.specs.Conflicts.{Both, starts, advances, closes_left, closes_right}
use Rattle.conflicts.specs.Pairs.{pair, own_part, both_part, word_of, begun_own, begun_both_lem, pair_round_lem, pairs}
use Rattle.conflicts.proofs.PairWords.{pair_below, own_has, both_has, word_own, word_both}
use Rattle.conflicts.proofs.PairPlaces.{code_below}
use Rattle.conflicts.proofs.PairSound.{begun_own_below}
use Rattle.conflicts.proofs.PairFixpoint.{advance_rest, first_rest, second_rest, Good, pairs_good, pairs_rest}

-- the words have the pair of p before t and q before u
pub record Held (w : List ℕ) (p t q u : ℕ) : Type 0 where
  pub left_below : t < 25
  pub right_below : u < 25
  pub left_own : has_bit t (get_or w (pair p q) 0) ≡ true
  pub right_own : has_bit u (get_or w (pair q p) 0) ≡ true
  pub left_both : t ≡ u → has_bit (25 + t) (get_or w (pair p q) 0) ≡ true
  pub right_both : t ≡ u → has_bit (25 + u) (get_or w (pair q p) 0) ≡ true

pub held_swap : {w : List ℕ} {p t q u : ℕ} → Held w p t q u → Held w q u p t
held_swap h =
    record {
      left_below = h.right_below;
      right_below = h.left_below;
      left_own = h.right_own;
      right_own = h.left_own;
      left_both = λ e. h.right_both (sym e);
      right_both = λ e. h.left_both (sym e);
    }

module _ (g : Grammar) (fits : a_grammar g ≡ true) (known : FirstKnown g) (w : List ℕ) (good : Good w) (rests : pair_round_lem g w ≡ w) where
  within_row : (p q : ℕ) → p < places g → q < places g → pair p q < length w
  within_row p q hp hq =
      subst (λ n. pair p q < n) (sym good.words.0) (pair_below p q (omega (arith, places_bound g fits)) (omega (arith, places_bound g fits)))

  -- ADVANCE
  moved : (p q : ℕ) → p < places g → q < places g → (x : Sym) (β α : List Sym) → rest g p ≡ x ∷ β → rest g q ≡ x ∷ α → (b : ℕ) →
      has_bit b (get_or w (pair p q) 0) ≡ true → has_bit b (get_or w (pair (suc p) (suc q)) 0) ≡ true
  unfolding next_code
  moved p q hp hq x β α ep eq b h =
      let e : next_code (rest g p) ≡ next_code (rest g q) = ap next_code ep ∙ sym (ap next_code eq) in
      let l = code_below (rest g p) x β (rest_fits g p fits) ep in
      let t : (eqb (next_code (rest g p)) (next_code (rest g q)) && ltb (next_code (rest g p)) 64) ≡ true =
      and_from _ _ (eq-eqb _ _ e) (lt-ltb _ 64 l) in
      let k : or_at w (pair (suc p) (suc q)) (get_or w (pair p q) 0) ≡ w =
      subst (λ c. pick c (or_at w (pair (suc p) (suc q)) (get_or w (pair p q) 0)) w ≡ w) t (advance_rest g w rests p q hp hq (has_nonzero _ b h)) in
      or_at_rest w (pair (suc p) (suc q)) (get_or w (pair p q) 0) b k
      (within_row (suc p) (suc q) (place_next g p x β ep).within (place_next g q x α eq).within) h

  held_advance : (p q t u : ℕ) → p < places g → q < places g → (x : Sym) (β α : List Sym) → rest g p ≡ x ∷ β → rest g q ≡ x ∷ α →
      Held w p t q u → Held w (suc p) t (suc q) u
  held_advance p q t u hp hq x β α ep eq h =
      record {
        left_below = h.left_below;
        right_below = h.right_below;
        left_own = moved p q hp hq x β α ep eq t h.left_own;
        right_own = moved q p hq hp x α β eq ep u h.right_own;
        left_both = λ e. moved p q hp hq x β α ep eq (25 + t) (h.left_both e);
        right_both = λ e. moved q p hq hp x α β eq ep (25 + u) (h.right_both e);
      }

  -- CLOSE, at p beside q
  module _ (p q t u : ℕ) (hp : p < places g) (hq : q < places g) (h : Held w p t q u) (k : ℕ) (hk : k < length g)
      (next : begins_with (rule g k).left (rest g p) ≡ true) (x : ℕ) (i : InFirst g (drop 1 (rest g p)) t x) where
    abbrev left_word : ℕ
    left_word = get_or w (pair p q) 0

    abbrev right_word : ℕ
    right_word = get_or w (pair q p) 0

    x_below : x < 25
    x_below =
        ⊎_elim
        (λ o. ⊎_elim (λ l. l) (λ l. absurd (false≢true (sym (has_past x 24 (behind g p) (omega arith) (known.behind_below p)) ∙ known.opens_behind p x o))) (cases_lt x 25))
        (λ o. subst (λ y. y < 25) (sym o.1) h.left_below)
        i

    begun_own_has : has_bit x (begun_own g p left_word) ≡ true
    begun_own_has =
        has_or x (behind g p) (pick (passes g p) (own_part left_word) 0)
        ∙ ⊎_elim (λ o. or_left _ _ (known.opens_behind p x o))
        (λ o. or_right (has_bit x (behind g p)) _ (ap (λ b. has_bit x (pick b (own_part left_word) 0)) (known.vanishes_passes p o.0)
        ∙ own_has x left_word x_below ∙ ap (λ y. has_bit y left_word) o.1 ∙ h.left_own))
        i

    begun_both_has : x ≡ u → has_bit x (begun_both_lem g p left_word right_word) ≡ true
    begun_both_has e =
        has_or x (bit_and (behind g p) (own_part right_word)) (pick (passes g p) (both_part left_word) 0)
        ∙ ⊎_elim
        (λ o. or_left _ _ (has_and x (behind g p) (own_part right_word)
        ∙ and_from _ _ (known.opens_behind p x o) (own_has x right_word x_below ∙ ap (λ y. has_bit y right_word) e ∙ h.right_own)))
        (λ o. or_right (has_bit x (bit_and (behind g p) (own_part right_word))) _
        (ap (λ b. has_bit x (pick b (both_part left_word) 0)) (known.vanishes_passes p o.0)
        ∙ both_has x left_word ∙ ap (λ y. has_bit (25 + y) left_word) o.1 ∙ h.left_both (sym o.1 ∙ e)))
        i

    left_not_zero : left_word ≡ 0 → ⊥
    left_not_zero = has_nonzero left_word t h.left_own

    hf : first_place_lem g k < places g
    hf = (place_first g k hk).within

    left_has : (b : ℕ) → has_bit b (word_of (begun_own g p left_word) (begun_both_lem g p left_word right_word)) ≡ true →
        has_bit b (get_or w (pair (first_place_lem g k) q) 0) ≡ true
    left_has b l = or_at_rest w (pair (first_place_lem g k) q) _ b (first_rest g w rests p q hp hq left_not_zero k hk next) (within_row (first_place_lem g k) q hf hq) l

    right_has : (b : ℕ) → has_bit b (word_of (own_part right_word) (begun_both_lem g p left_word right_word)) ≡ true →
        has_bit b (get_or w (pair q (first_place_lem g k)) 0) ≡ true
    right_has b l = or_at_rest w (pair q (first_place_lem g k)) _ b (second_rest g w rests p q hp hq left_not_zero k hk next) (within_row q (first_place_lem g k) hq hf) l

    held_close : Held w (first_place_lem g k) x q u
    held_close =
        let fl = begun_own_below g known p left_word in
        let fr : own_part right_word < 2 ^ 25 = mod_below right_word (2 ^ 25) (lit< tt) in
        record {
          left_below = x_below;
          right_below = h.right_below;
          left_own = left_has x (word_own _ _ fl x x_below ∙ begun_own_has);
          right_own = right_has u (word_own _ _ fr u h.right_below ∙ own_has u right_word h.right_below ∙ h.right_own);
          left_both = λ e. left_has (25 + x) (word_both _ _ fl x ∙ begun_both_has e);
          right_both = λ e. right_has (25 + u) (word_both _ _ fr u ∙ ap (λ y. has_bit y (begun_both_lem g p left_word right_word)) (sym e) ∙ begun_both_has e);
        }

  -- EVERY PAIR has its places, and the words hold it
  abbrev Placed : (r : ℕ) (β : List Sym) (t q : ℕ) (α : List Sym) (u : ℕ) → Type 0
  Placed r β t q α u = (i j : ℕ) × At g i r β × At g j q α × Held w i t j u

  placed_start : Placed 0 (rule g 0).right 24 0 (rule g 0).right 24
  placed_start =
      let a = place_zero g fits in (
        0,
        0,
        a,
        a,
        record {
          left_below = lit< tt;
          right_below = lit< tt;
          left_own = good.own_start;
          right_own = good.own_start;
          left_both = λ _. good.both_start;
          right_both = λ _. good.both_start;
        },
      )

  placed_close : {r n : ℕ} {β : List Sym} {t q : ℕ} {α : List Sym} {u : ℕ} {v rs : List ℕ} (k : ℕ) → k < length g → (rule g k).left ≡ n →
      Placed r (name n ∷ β) t q α u → Yields g β v rs → Placed k (rule g k).right (first_or v t) q α u
  placed_close {n = n} {β} {t} {v = v} k hk l (i, j, a, b, h) D =
      let next = begins_with_name (rule g k).left (a.rests ∙ ap (λ m. name m ∷ β) (sym l)) in
      let f : InFirst g (drop 1 (rest g i)) t (first_or v t) = subst (λ γ. InFirst g (drop 1 γ) t (first_or v t)) (sym a.rests) (in_first_of t D) in
      (first_place_lem g k, j, place_first g k hk, b, held_close i j t _ a.within b.within h k hk next (first_or v t) f)

  placed_swap : {r : ℕ} {β : List Sym} {t q : ℕ} {α : List Sym} {u : ℕ} → Placed r β t q α u → Placed q α u r β t
  placed_swap (i, j, a, b, h) = (j, i, b, a, held_swap h)

  placed_advance : {r : ℕ} {x : Sym} {β : List Sym} {t q : ℕ} {α : List Sym} {u : ℕ} → Placed r (x ∷ β) t q (x ∷ α) u → Placed r β t q α u
  placed_advance {x = x} {β} {t} {α = α} {u} (i, j, a, b, h) =
      (suc i, suc j, next_at a, next_at b, held_advance i j t u a.within b.within x β α a.rests b.rests h)
    where
      next_at : {p r : ℕ} {y : Sym} {γ : List Sym} → At g p r (y ∷ γ) → At g (suc p) r γ
      next_at {p} {y = y} {γ} c = subst (λ r. At g (suc p) r γ) c.owned (place_next g p y γ c.rests)

  placed : {r : ℕ} {β : List Sym} {t q : ℕ} {α : List Sym} {u : ℕ} → Both g r β t q α u → Placed r β t q α u
  placed starts = placed_start
  placed (advances b) = placed_advance (placed b)
  placed (closes_left k hk l b D) = placed_close k hk l (placed b) D
  placed (closes_right k hk l b D) = placed_swap (placed_close k hk l (placed_swap (placed b)) D)

pub pairs_complete : (g : Grammar) → a_grammar g ≡ true → FirstKnown g → {r : ℕ} {β : List Sym} {t q : ℕ} {α : List Sym} {u : ℕ} → Both g r β t q α u →
    (i j : ℕ) × At g i r β × At g j q α × Held (pairs g) i t j u
pairs_complete g fits known b = placed g fits known (pairs g) (pairs_good g known) (pairs_rest g known) b
