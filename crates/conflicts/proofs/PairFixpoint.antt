-- The rounds on pairs come to a fixpoint, which no step on any pair changes.
--     begin_up, close_up, advance_up, step_up, row_up, round_up      each step changes nothing, or sets more bits
--     advance_rest, first_rest, second_rest      what a fixpoint of the rounds says of a pair that came about
--     Good, pairs_good, pairs_rest      the pairs of a grammar are words of 64 bits, with the start among them, and such a fixpoint
use Rattle.std.proofs.Common.{◌≡◌, ℕ, suc, ◌+◌, ◌^◌, ◌<◌, ◌≤◌, Bool, true, false, ◌&&◌, eqb, ltb, List, length, get_or, replicate, sym, refl, ap, ◌∙◌, subst, inl, arith, lit<}
use lib.Bits.{bit_and}
use lib.ListN.{length-replicate}
use Rattle.std.proofs.lemmas.Nat.{or_lt, and_le_l, mod_below}
use Rattle.std.proofs.lemmas.Bool.{ne_eqb}
use Rattle.words.specs.Bits.{has_bit}
use Rattle.words.specs.Iter.{counted, Up}
use Rattle.words.specs.Rows.{or_at, size, Words}
use Rattle.words.proofs.BitLaws.{has_pow}
use Rattle.words.proofs.Fixpoint.{iter_keeps, counted_keeps, iter_fixpoint, up_then, up_back, up_counted, counted_rest}
use Rattle.words.proofs.RowLaws.{up_or_at, or_at_keeps, or_at_has, words_zero, size_below, words_or_at}
use Rattle.grammar.specs.Grammar.{pick, Grammar, rule}
use Rattle.grammar.specs.Places.{places, rest, first_place_lem, next_code}
use Rattle.grammar.specs.Rows.{begins_with}
use Rattle.grammar.specs.Analysis.{behind, passes}
use Rattle.grammar.proofs.Picks.{up_pick}
use Rattle.grammar.proofs.FirstKnown.{FirstKnown}
use Rattle.conflicts.specs.Pairs.{pair, own_part, both_part, word_of, advance_pair, begun_own, begun_both_lem, begin_rule, close_pair_lem, pair_step, pair_round_lem, pairs}
use Rattle.conflicts.proofs.PairWords.{word_own, word_both, word_below, both_below}
use Rattle.conflicts.proofs.PairSound.{begun_own_below}

-- ---- every step changes nothing, or sets more bits

module _ (g : Grammar) where
  begun_up : (p q v u k : ℕ) (w : List ℕ) →
      Up size w (or_at (or_at w (pair (first_place_lem g k) q) (word_of (begun_own g p v) (begun_both_lem g p v u)))
      (pair q (first_place_lem g k)) (word_of (own_part u) (begun_both_lem g p v u)))
  begun_up p q v u k w = up_then size w _ _ (up_or_at w (pair (first_place_lem g k) q) _) (up_or_at _ (pair q (first_place_lem g k)) _)

  pub begin_up : (p q v u k : ℕ) (w : List ℕ) → Up size w (begin_rule g p q v u k w)
  begin_up p q v u k w = up_pick size (begins_with (rule g k).left (rest g p)) w _ (begun_up p q v u k w)

  pub close_up : (p q : ℕ) (w : List ℕ) → Up size w (close_pair_lem g p q w)
  close_up p q w = up_counted size (begin_rule g p q (get_or w (pair p q) 0) (get_or w (pair q p) 0)) (begin_up p q _ _) (length g) w

  pub advance_up : (p q : ℕ) (w : List ℕ) → Up size w (advance_pair g p q w)
  advance_up p q w =
      up_pick size (eqb (next_code (rest g p)) (next_code (rest g q)) && ltb (next_code (rest g p)) 64) w _
      (up_or_at w (pair (suc p) (suc q)) (get_or w (pair p q) 0))

  pub step_up : (p q : ℕ) (w : List ℕ) → Up size w (pair_step g p q w)
  step_up p q w = go (eqb (get_or w (pair p q) 0) 0)
    where
      go : (b : Bool) → Up size w (pick b w (close_pair_lem g p q (advance_pair g p q w)))
      go true = inl refl
      go false = up_then size w (advance_pair g p q w) _ (advance_up p q w) (close_up p q (advance_pair g p q w))

  pub row_up : (p : ℕ) (w : List ℕ) → Up size w (counted (places g) (pair_step g p) w)
  row_up p w = up_counted size (pair_step g p) (step_up p) (places g) w

  pub round_up : (w : List ℕ) → Up size w (pair_round_lem g w)
  round_up w = up_counted size (λ p u. counted (places g) (pair_step g p) u) row_up (places g) w

  -- ---- so at a fixpoint no step changes anything

  module _ (w : List ℕ) (e : pair_round_lem g w ≡ w) (p q : ℕ) (hp : p < places g) (hq : q < places g) (n : get_or w (pair p q) 0 ≡ 0 → ⊥) where
    step_rest : close_pair_lem g p q (advance_pair g p q w) ≡ w
    step_rest =
        subst (λ b. pick b w (close_pair_lem g p q (advance_pair g p q w)) ≡ w) (ne_eqb (get_or w (pair p q) 0) 0 n)
        (counted_rest size (pair_step g p) (step_up p) (places g) w
        (counted_rest size (λ p u. counted (places g) (pair_step g p) u) row_up (places g) w e p hp) q hq)

    pub advance_rest : advance_pair g p q w ≡ w
    advance_rest = up_back size w (advance_pair g p q w) _ (advance_up p q w) (close_up p q (advance_pair g p q w)) step_rest

    close_rest : close_pair_lem g p q w ≡ w
    close_rest = ap (close_pair_lem g p q) (sym advance_rest) ∙ step_rest

    module _ (k : ℕ) (hk : k < length g) (h : begins_with (rule g k).left (rest g p) ≡ true) where
      abbrev first_word : ℕ
      first_word = word_of (begun_own g p (get_or w (pair p q) 0)) (begun_both_lem g p (get_or w (pair p q) 0) (get_or w (pair q p) 0))

      abbrev second_word : ℕ
      second_word = word_of (own_part (get_or w (pair q p) 0)) (begun_both_lem g p (get_or w (pair p q) 0) (get_or w (pair q p) 0))

      begin_rest : or_at (or_at w (pair (first_place_lem g k) q) first_word) (pair q (first_place_lem g k)) second_word ≡ w
      begin_rest =
          subst (λ b. pick b (or_at (or_at w (pair (first_place_lem g k) q) first_word) (pair q (first_place_lem g k)) second_word) w ≡ w) h
          (counted_rest size (begin_rule g p q (get_or w (pair p q) 0) (get_or w (pair q p) 0)) (begin_up p q _ _) (length g) w close_rest k hk)

      pub first_rest : or_at w (pair (first_place_lem g k) q) first_word ≡ w
      first_rest = up_back size w _ _ (up_or_at w (pair (first_place_lem g k) q) first_word) (up_or_at _ (pair q (first_place_lem g k)) second_word) begin_rest

      pub second_rest : or_at w (pair q (first_place_lem g k)) second_word ≡ w
      second_rest = ap (λ x. or_at x (pair q (first_place_lem g k)) second_word) (sym first_rest) ∙ begin_rest

-- ---- enough rounds

-- words of 64 bits, with the start among them
pub record Good (w : List ℕ) : Type 0 where
  pub words : Words 36864 w
  pub own_start : has_bit 24 (get_or w 0 0) ≡ true
  pub both_start : has_bit 49 (get_or w 0 0) ≡ true

good_or_at : (w : List ℕ) (i m : ℕ) → m < 2 ^ 64 → Good w → Good (or_at w i m)
good_or_at w i m h k =
    record {
      words = words_or_at 36864 w i m h k.words;
      own_start = or_at_keeps w i m 0 24 k.own_start;
      both_start = or_at_keeps w i m 0 49 k.both_start;
    }

start_words : (n m : ℕ) → m < 2 ^ 64 → Words n (or_at (replicate n 0) 0 m)
start_words n m h = words_or_at n (replicate n 0) 0 m h (words_zero n)

start_has : (n b m : ℕ) → 0 < n → has_bit b m ≡ true → has_bit b (get_or (or_at (replicate n 0) 0 m) 0 0) ≡ true
start_has n b m l h = or_at_has (replicate n 0) 0 m b (subst (λ k. 0 < k) (sym (length-replicate {A = ℕ} n 0)) l) h

start_good : Good (or_at (replicate 36864 0) 0 (word_of (2 ^ 24) (2 ^ 24)))
start_good =
    record {
      words = start_words 36864 (word_of (2 ^ 24) (2 ^ 24)) (lit< tt);
      own_start = start_has 36864 24 (word_of (2 ^ 24) (2 ^ 24)) (lit< tt) (word_own (2 ^ 24) (2 ^ 24) (lit< tt) 24 (lit< tt) ∙ has_pow 24 24);
      both_start = start_has 36864 49 (word_of (2 ^ 24) (2 ^ 24)) (lit< tt) (word_both (2 ^ 24) (2 ^ 24) (lit< tt) 24 ∙ has_pow 24 24);
    }

at_least : (n m : ℕ) → n ≤ n + m
at_least n m = omega arith

module _ (g : Grammar) (known : FirstKnown g) where
  pub begun_both_below : (p v u : ℕ) → v < 2 ^ 64 → begun_both_lem g p v u < 2 ^ 39
  begun_both_below p v u h =
      or_lt 39 (bit_and (behind g p) (own_part u)) (pick (passes g p) (both_part v) 0)
      (omega (arith, and_le_l (behind g p) (own_part u), known.behind_below p)) (go (passes g p))
    where
      go : (b : Bool) → pick b (both_part v) 0 < 2 ^ 39
      go true = both_below v h
      go false = lit< tt

  begin_good : (p q v u : ℕ) → v < 2 ^ 64 → (k : ℕ) (w : List ℕ) → Good w → Good (begin_rule g p q v u k w)
  begin_good p q v u h k w m = go (begins_with (rule g k).left (rest g p))
    where
      b : begun_both_lem g p v u < 2 ^ 39
      b = begun_both_below p v u h

      go : (c : Bool) → Good (pick c (or_at (or_at w (pair (first_place_lem g k) q) (word_of (begun_own g p v) (begun_both_lem g p v u)))
          (pair q (first_place_lem g k)) (word_of (own_part u) (begun_both_lem g p v u))) w)
      go true =
          good_or_at _ (pair q (first_place_lem g k)) _ (word_below (own_part u) (begun_both_lem g p v u) (mod_below u (2 ^ 25) (lit< tt)) b)
          (good_or_at w (pair (first_place_lem g k) q) _ (word_below (begun_own g p v) (begun_both_lem g p v u) (begun_own_below g known p v) b) m)
      go false = m

  close_good : (p q : ℕ) (w : List ℕ) → Good w → Good (close_pair_lem g p q w)
  close_good p q w m =
      counted_keeps Good (begin_rule g p q (get_or w (pair p q) 0) (get_or w (pair q p) 0)) (length g)
      (λ k x hk mx. begin_good p q _ _ (m.words.1 (pair p q)) k x mx) w m

  advance_good : (p q : ℕ) (w : List ℕ) → Good w → Good (advance_pair g p q w)
  advance_good p q w m = go (eqb (next_code (rest g p)) (next_code (rest g q)) && ltb (next_code (rest g p)) 64)
    where
      go : (b : Bool) → Good (pick b (or_at w (pair (suc p) (suc q)) (get_or w (pair p q) 0)) w)
      go true = good_or_at w (pair (suc p) (suc q)) _ (m.words.1 (pair p q)) m
      go false = m

  step_good : (p q : ℕ) (w : List ℕ) → Good w → Good (pair_step g p q w)
  step_good p q w m = go (eqb (get_or w (pair p q) 0) 0)
    where
      go : (b : Bool) → Good (pick b w (close_pair_lem g p q (advance_pair g p q w)))
      go true = m
      go false = close_good p q _ (advance_good p q w m)

  pub round_good : (w : List ℕ) → Good w → Good (pair_round_lem g w)
  round_good w m =
      counted_keeps Good (λ p u. counted (places g) (pair_step g p) u) (places g)
      (λ p x hp mx. counted_keeps Good (pair_step g p) (places g) (λ q y hq my. step_good p q y my) x mx) w m

  pub pairs_good : Good (pairs g)
  unfolding pairs
  pairs_good = iter_keeps Good (pair_round_lem g) round_good 2359296 _ start_good

  pub pairs_rest : pair_round_lem g (pairs g) ≡ pairs g
  unfolding pairs
  pairs_rest =
      iter_fixpoint (pair_round_lem g) size 2359296 Good round_good (λ w m. size_below 36864 w m.words) (λ w m. round_up g w) 2359296 _ start_good
      (at_least 2359296 _)
