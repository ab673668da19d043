-- Each step on pairs keeps what their words say, so every bit of the pairs of a grammar is true.
--     begun_own_below      what a begun rule can have ahead is of 25 bits
--     round_sound, pairs_sound      a round keeps the words sound, and so those of the pairs are
use Rattle.std.proofs.Common.{◌≡◌, ℕ, suc, ◌^◌, ◌<◌, ◌≤◌, Bool, true, false, ◌&&◌, eqb, ltb, List, ◌∷◌, length, get_or, drop, replicate, sym, refl, ◌∙◌, subst, subst₂, inl, inr, ⊎_elim, arith, lit<}
use lib.Bits.{bit_and}
use Rattle.std.proofs.lemmas.Nat.{or_lt, mod_below}
use Rattle.std.proofs.lemmas.Bool.{and_parts, or_cases, eqb-true, eqb-false, ltb-true}
use Rattle.words.specs.Bits.{has_bit}
use Rattle.words.specs.Iter.{counted}
use Rattle.words.specs.Rows.{or_at}
use Rattle.words.proofs.BitLaws.{has_or, has_and, has_pow, has_nonzero}
use Rattle.words.proofs.Fixpoint.{iter_keeps, counted_keeps}
use Rattle.words.proofs.RowLaws.{zero_at}
use Rattle.grammar.specs.Grammar.{pick, Sym, name, Grammar, rule, a_grammar, AllUseful}
use Rattle.grammar.specs.Places.{places, rest, owner, first_place_lem, next_code}
use Rattle.grammar.specs.Rows.{begins_with}
use Rattle.grammar.specs.Analysis.{behind, passes}
use Rattle.grammar.proofs.Places.{place_zero, place_first, place_next, places_bound, rest_fits}
use Rattle.grammar.proofs.FirstKnown.{FirstKnown}
use Rattle.items.specs.First.{InFirst}
use Rattle.items.proofs.Items.{to_come}
use Rattle.items.specs.Items.{advance, first_or}
use Rattle.items.proofs.Begun.{next_name}
use Rattle.conflicts.specs.Conflicts.{Both, starts, advances, closes_left}
use Rattle.conflicts.specs.Pairs.{pair, own_part, both_part, word_of, advance_pair, begun_own, begun_both_lem, begin_rule, close_pair_lem, pair_step, pair_round_lem, pairs}
use Rattle.conflicts.proofs.Pairs.{both_valid, both_swap, closes_left_by_first}
use Rattle.conflicts.proofs.PairPlaces.{same_next}
use Rattle.conflicts.proofs.PairMeaning.{Shared, shared_at, at_itself, Means, first_has, both_have, WordMeans, Together, own_means, both_means, some_means, word_means, SoundWords, sound_or_at}

-- a mask that is there only where a test holds
pub picked_has : (b : Bool) (t m : ℕ) → has_bit t (pick b m 0) ≡ true → (b ≡ true) × (has_bit t m ≡ true)
picked_has true t m h = (refl, h)
picked_has false t m h = absurd (has_nonzero 0 t h refl)

module _ (g : Grammar) (known : FirstKnown g) where
  pub begun_own_below : (p v : ℕ) → begun_own g p v < 2 ^ 25
  begun_own_below p v = or_lt 25 (behind g p) (pick (passes g p) (own_part v) 0) (omega (arith, known.behind_below p)) (go (passes g p))
    where
      go : (b : Bool) → pick b (own_part v) 0 < 2 ^ 25
      go true = mod_below v (2 ^ 25) (lit< tt)
      go false = lit< tt

module _ (g : Grammar) (fits : a_grammar g ≡ true) (useful : AllUseful g) (known : FirstKnown g) where
  -- A RULE BEGUN at p beside q, where p has its name next
  module _ (p q k : ℕ) (hq : q < places g) (hk : k < length g) (next : rest g p ≡ name (rule g k).left ∷ drop 1 (rest g p)) where
    abbrev Next : (t u : ℕ) → Type 0
    Next t u = Both g (owner g p) (name (rule g k).left ∷ drop 1 (rest g p)) t (owner g q) (rest g q) u

    at_next : {t u : ℕ} → Shared g p t q u → Next t u
    at_next {t} {u} b = subst (λ β. Both g (owner g p) β t (owner g q) (rest g q) u) next b

    begun : {t u : ℕ} (x : ℕ) → Shared g p t q u → InFirst g (drop 1 (rest g p)) t x → Shared g (first_place_lem g k) x q u
    begun x b i = shared_at (place_first g k hk) (at_itself q hq) (closes_left_by_first useful x k hk refl (at_next b) i)

    -- with some lookahead, whatever it is
    begun_some : {t u : ℕ} → Shared g p t q u → (x : ℕ) × Shared g (first_place_lem g k) x q u
    begun_some {t} b =
        let D = to_come useful (advance (both_valid (at_next b)).1) in
        (first_or D.0 t, shared_at (place_first g k hk) (at_itself q hq) (closes_left k hk refl (at_next b) D.2))

    module _ (v u : ℕ) (mv : WordMeans g p q v) (mu : WordMeans g q p u) where
      begun_own_means : Together g p q → (t : ℕ) → has_bit t (begun_own g p v) ≡ true → (x : ℕ) × Shared g (first_place_lem g k) t q x
      begun_own_means s t h =
          ⊎_elim
          (λ o. (s.1, begun t s.2 (inl (known.behind_opens p t o))))
          (λ o. let c = picked_has (passes g p) t (own_part v) o in
          let x = own_means g p q v mv t c.1 in
          (x.0, begun t x.1 (inr (known.passes_vanishes p c.0, refl))))
          (or_cases _ _ (sym (has_or t (behind g p) (pick (passes g p) (own_part v) 0)) ∙ h))

      begun_both_means : (t : ℕ) → has_bit t (begun_both_lem g p v u) ≡ true → Shared g (first_place_lem g k) t q t
      begun_both_means t h =
          ⊎_elim
          (λ o. let c = and_parts _ _ (sym (has_and t (behind g p) (own_part u)) ∙ o) in
          let s = own_means g q p u mu t c.1 in
          begun t (both_swap s.1) (inl (known.behind_opens p t c.0)))
          (λ o. let c = picked_has (passes g p) t (both_part v) o in
          begun t (both_means g p q v mv t c.1) (inr (known.passes_vanishes p c.0, refl)))
          (or_cases _ _ (sym (has_or t (bit_and (behind g p) (own_part u)) (pick (passes g p) (both_part v) 0)) ∙ h))

      begun_word : Together g p q → WordMeans g (first_place_lem g k) q (word_of (begun_own g p v) (begun_both_lem g p v u))
      begun_word s = word_means g (first_place_lem g k) q (begun_own g p v) (begun_both_lem g p v u) (begun_own_below g known p v) (begun_own_means s) begun_both_means

      beside_word : WordMeans g q (first_place_lem g k) (word_of (own_part u) (begun_both_lem g p v u))
      beside_word =
          word_means g q (first_place_lem g k) (own_part u) (begun_both_lem g p v u) (mod_below u (2 ^ 25) (lit< tt))
          (λ t h. let s = own_means g q p u mu t h in let x = begun_some (both_swap s.1) in (x.0, both_swap x.1))
          (λ t h. both_swap (begun_both_means t h))

  -- THE STEPS
  module _ (p q : ℕ) (hp : p < places g) (hq : q < places g) where
    begin_sound : (v u : ℕ) → WordMeans g p q v → WordMeans g q p u → Together g p q → (k : ℕ) (w : List ℕ) → k < length g → SoundWords g w →
        SoundWords g (begin_rule g p q v u k w)
    begin_sound v u mv mu s k w hk m = go (begins_with (rule g k).left (rest g p)) refl
      where
        few : places g ≤ 192
        few = places_bound g fits

        go : (b : Bool) → begins_with (rule g k).left (rest g p) ≡ b →
            SoundWords g (pick b (or_at (or_at w (pair (first_place_lem g k) q) (word_of (begun_own g p v) (begun_both_lem g p v u)))
            (pair q (first_place_lem g k)) (word_of (own_part u) (begun_both_lem g p v u))) w)
        go true e =
            let next = next_name (rule g k).left (rest g p) e in
            let hf = (place_first g k hk).within in
            sound_or_at g few _ q (first_place_lem g k) _ hq hf (beside_word p q k hq hk next v u mv mu)
            (sound_or_at g few w (first_place_lem g k) q _ hf hq (begun_word p q k hq hk next v u mv mu s) m)
        go false e = m

    close_sound : Together g p q → (w : List ℕ) → SoundWords g w → SoundWords g (close_pair_lem g p q w)
    close_sound s w m =
        counted_keeps (SoundWords g) (begin_rule g p q (get_or w (pair p q) 0) (get_or w (pair q p) 0)) (length g)
        (λ k x hk mx. begin_sound _ _ (m p q hp hq) (m q p hq hp) s k x hk mx) w m

    advance_sound : (w : List ℕ) → SoundWords g w → SoundWords g (advance_pair g p q w)
    advance_sound w m = go (eqb (next_code (rest g p)) (next_code (rest g q)) && ltb (next_code (rest g p)) 64) refl
      where
        moved : {x : Sym} {β α : List Sym} → rest g p ≡ x ∷ β → rest g q ≡ x ∷ α → (t u : ℕ) → Shared g p t q u → Shared g (suc p) t (suc q) u
        moved {x} {β} {α} ep eq t u b =
            shared_at (place_next g p x β ep) (place_next g q x α eq)
            (advances (subst₂ (λ y z. Both g (owner g p) y t (owner g q) z u) ep eq b))

        mean : {x : Sym} {β α : List Sym} → rest g p ≡ x ∷ β → rest g q ≡ x ∷ α → {b : ℕ} → Means g p q b → Means g (suc p) (suc q) b
        mean ep eq {b} (first_has u l c) = first_has u l (moved ep eq b u c)
        mean ep eq (both_have t e c) = both_have t e (moved ep eq t t c)

        go : (b : Bool) → (eqb (next_code (rest g p)) (next_code (rest g q)) && ltb (next_code (rest g p)) 64) ≡ b →
            SoundWords g (pick b (or_at w (pair (suc p) (suc q)) (get_or w (pair p q) 0)) w)
        go true e =
            let k = and_parts (eqb (next_code (rest g p)) (next_code (rest g q))) (ltb (next_code (rest g p)) 64) e in
            let n = same_next (rest g p) (rest g q) (rest_fits g p fits) (rest_fits g q fits) (eqb-true _ _ k.0) (ltb-true _ _ k.1) in
            sound_or_at g (places_bound g fits) w (suc p) (suc q) (get_or w (pair p q) 0)
            (place_next g p n.0 n.1 n.3).within (place_next g q n.0 n.2 n.4).within
            (λ b h. mean n.3 n.4 (m p q hp hq b h)) m
        go false e = m

    step_sound : (w : List ℕ) → SoundWords g w → SoundWords g (pair_step g p q w)
    step_sound w m = go (eqb (get_or w (pair p q) 0) 0) refl
      where
        go : (b : Bool) → eqb (get_or w (pair p q) 0) 0 ≡ b → SoundWords g (pick b w (close_pair_lem g p q (advance_pair g p q w)))
        go true e = m
        go false e = close_sound (some_means g p q _ (m p q hp hq) (eqb-false _ 0 e)) _ (advance_sound w m)

  pub round_sound : (w : List ℕ) → SoundWords g w → SoundWords g (pair_round_lem g w)
  round_sound w m =
      counted_keeps (SoundWords g) (λ p u. counted (places g) (pair_step g p) u) (places g)
      (λ p x hp mx. counted_keeps (SoundWords g) (pair_step g p) (places g) (λ q y hq my. step_sound p q hp hq y my) x mx) w m

  -- the start: the first place beside itself, before the end
  start_sound : (n : ℕ) → SoundWords g (or_at (replicate n 0) 0 (word_of (2 ^ 24) (2 ^ 24)))
  start_sound n =
      let a = place_zero g fits in
      let s : Shared g 0 24 0 24 = shared_at a a starts in
      sound_or_at g (places_bound g fits) (replicate n 0) 0 0 _ a.within a.within
      (word_means g 0 0 (2 ^ 24) (2 ^ 24) (lit< tt) (λ t h. (24, subst (λ k. Shared g 0 k 0 24) (sym (eqb-true t 24 (sym (has_pow t 24) ∙ h))) s))
      (λ t h. subst (λ k. Shared g 0 k 0 k) (sym (eqb-true t 24 (sym (has_pow t 24) ∙ h))) s))
      (λ p q hp hq b h. absurd (has_nonzero _ b h (zero_at n (pair p q))))

  pub pairs_sound : SoundWords g (pairs g)
  unfolding pairs
  pairs_sound = iter_keeps (SoundWords g) (pair_round_lem g) round_sound 2359296 _ (start_sound 36864)
