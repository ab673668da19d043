-- Item sets keep their shape, and enough rounds of closure close them.
--     item_set_none, item_set_put, item_set_or_at      the shape of item sets
--     closure_keeps      what every rule begun at a place keeps, closure keeps
--     closure_rests      closure comes to a set that one more round leaves as it is
--     begun_at_rest      in such a set every rule of a name that is next is begun
use Rattle.std.proofs.Common.{◌≡◌, ℕ, ◌^◌, ◌<◌, ◌≤◌, true, List, length, get_or, set, sym, ◌∙◌, subst, ⊎_elim, arith}
use lib.Bits.{bit_or}
use Rattle.std.proofs.lemmas.Nat.{or_lt}
use Rattle.std.proofs.lemmas.List.{set_past, get_or-set_same, get_or-set_other, length-set, length-replicate}
use Rattle.std.proofs.lemmas.Bool.{cases_lt, cases_eq}
use Rattle.words.specs.Iter.{Up}
use Rattle.words.specs.Rows.{or_at, size, Words}
use Rattle.words.proofs.Fixpoint.{iter_keeps, counted_keeps, iter_fixpoint, up_counted, counted_rest}
use Rattle.words.proofs.RowLaws.{zero_at, up_or_at, size_below}
use Rattle.grammar.specs.Grammar.{Grammar, rule}
use Rattle.grammar.specs.Places.{places, rest, first_place_lem}
use Rattle.grammar.specs.Rows.{begins_with}
use Rattle.grammar.specs.Analysis.{behind, passes}
use Rattle.grammar.proofs.Picks.{pick_true, pick_both, up_pick}
use Rattle.grammar.proofs.Places.{place_first}
use Rattle.items.specs.Sets.{no_items, begun_ahead, begin_rule, close_place, close_round_lem, closure, IsItemSet}

-- ---- the shape of item sets

pub nothing_in_none : (p : ℕ) → get_or no_items p 0 ≡ 0
nothing_in_none p = zero_at 192 p

pub item_set_none : (g : Grammar) → IsItemSet g no_items
item_set_none g =
    record { long = length-replicate {A = ℕ} 192 0; fits = λ p. omega (arith, nothing_in_none p); past = λ p _. nothing_in_none p }

pub item_set_put : {g : Grammar} {s : List ℕ} → IsItemSet g s → (q w : ℕ) → q < places g → w < 2 ^ 25 → IsItemSet g (set s q w)
item_set_put {g} {s} i q w lq lw =
    record {
      long = length-set s q w ∙ i.long;
      fits = fit;
      past = λ p h. get_or-set_other s q p w 0 (λ e. omega (arith, e)) ∙ i.past p h;
    }
  where
    fit : (p : ℕ) → get_or (set s q w) p 0 < 2 ^ 25
    fit p =
        ⊎_elim
        (λ l. ⊎_elim
        (λ e. let k : get_or (set s q w) q 0 < 2 ^ 25 = rw (get_or-set_same s q w 0 l) lw in subst (λ z. get_or (set s q w) z 0 < 2 ^ 25) (sym e) k)
        (λ n. rw (get_or-set_other s q p w 0 n) (i.fits p))
        (cases_eq p q))
        (λ l. rw (set_past s q w l) (i.fits p))
        (cases_lt q (length s))

pub item_set_or_at : {g : Grammar} {s : List ℕ} → IsItemSet g s → (q m : ℕ) → q < places g → m < 2 ^ 25 → IsItemSet g (or_at s q m)
item_set_or_at {g} {s} i q m lq lm = item_set_put i q (bit_or (get_or s q 0) m) lq (or_lt 25 (get_or s q 0) m (i.fits q) lm)

-- what a rule begun has ahead fits, if what stands behind the name does
pub begun_fits : (g : Grammar) (p w : ℕ) → behind g p < 2 ^ 25 → w < 2 ^ 25 → begun_ahead g p w < 2 ^ 25
begun_fits g p w hb hw =
    let none : 0 < 2 ^ 25 = omega arith in
    pick_both _ _ _ (λ z. z < 2 ^ 25) (λ _. none)
    (λ _. or_lt 25 (behind g p) _ hb (pick_both (passes g p) w 0 (λ z. z < 2 ^ 25) (λ _. hw) (λ _. none)))

-- ---- closure

-- a property that every rule begun at a place keeps
abbrev pub Keeps : Grammar → (List ℕ → Type 0) → Type 0
Keeps g P =
    (p k : ℕ) (s u : List ℕ) → p < places g → k < length g → begins_with (rule g k).left (rest g p) ≡ true → P s → P u →
    P (or_at u (first_place_lem g k) (begun_ahead g p (get_or s p 0)))

round_keeps : (g : Grammar) (P : List ℕ → Type 0) → Keeps g P → (s : List ℕ) → P s → P (close_round_lem g s)
round_keeps g P keep s ps = counted_keeps P (close_place g) (places g) at_place s ps
  where
    at_place : (p : ℕ) (u : List ℕ) → p < places g → P u → P (close_place g p u)
    at_place p u hp pu =
        counted_keeps P (begin_rule g p (begun_ahead g p (get_or u p 0))) (length g)
        (λ k v hk pv. pick_both _ _ _ P (λ b. keep p k u v hp hk b pu pv) (λ _. pv)) u pu

pub closure_keeps : (g : Grammar) (P : List ℕ → Type 0) → Keeps g P → (s : List ℕ) → P s → P (closure g s)
unfolding closure
closure_keeps g P keep s ps = iter_keeps P (close_round_lem g) (round_keeps g P keep) 12288 s ps

up_begin : (g : Grammar) (p m k : ℕ) (u : List ℕ) → Up size u (begin_rule g p m k u)
up_begin g p m k u = up_pick size (begins_with (rule g k).left (rest g p)) u _ (up_or_at u (first_place_lem g k) m)

up_place : (g : Grammar) (p : ℕ) (s : List ℕ) → Up size s (close_place g p s)
up_place g p s = up_counted size (begin_rule g p (begun_ahead g p (get_or s p 0))) (up_begin g p (begun_ahead g p (get_or s p 0))) (length g) s

module _ (g : Grammar) (small : (p : ℕ) → behind g p < 2 ^ 25) where
  keeps_shape : Keeps g (IsItemSet g)
  keeps_shape p k s u hp hk b is iu =
      item_set_or_at iu (first_place_lem g k) (begun_ahead g p (get_or s p 0)) (place_first g k hk).within (begun_fits g p (get_or s p 0) (small p) (is.fits p))

  pub closure_shape : (s : List ℕ) → IsItemSet g s → IsItemSet g (closure g s)
  closure_shape = closure_keeps g (IsItemSet g) keeps_shape

  below : (s : List ℕ) → IsItemSet g s → size s ≤ 12288
  below s i =
      let w : Words 192 s = (i.long, λ p. omega (arith, i.fits p)) in
      omega (arith, size_below 192 s w)

  pub closure_rests : (s : List ℕ) → IsItemSet g s → close_round_lem g (closure g s) ≡ closure g s
  unfolding closure
  closure_rests s i =
      iter_fixpoint (close_round_lem g) size 12288 (IsItemSet g) (round_keeps g (IsItemSet g) keeps_shape) below
      (λ x _. up_counted size (close_place g) (up_place g) (places g) x) 12288 s i (omega arith)

pub begun_at_rest : (g : Grammar) (z : List ℕ) → close_round_lem g z ≡ z → (p k : ℕ) → p < places g → k < length g → begins_with (rule g k).left (rest g p) ≡ true →
    or_at z (first_place_lem g k) (begun_ahead g p (get_or z p 0)) ≡ z
begun_at_rest g z e p k hp hk b =
    let m = begun_ahead g p (get_or z p 0) in
    let at_place : close_place g p z ≡ z = counted_rest size (close_place g) (up_place g) (places g) z e p hp in
    sym (pick_true _ _ _ b) ∙ counted_rest size (begin_rule g p m) (up_begin g p m) (length g) z at_place k hk
