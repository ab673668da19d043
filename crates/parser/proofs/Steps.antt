-- The parts of one move: the item set behind one symbol more, what an action says, and a symbol pushed.
use Rattle.std.proofs.Common.{◌≡◌, ℕ, zero, suc, ◌+◌, ◌-◌, ◌<◌, ◌≤◌, Bool, true, false, ◌&&◌, eqb, List, [], ◌∷◌, length, get_or, set, sym, refl, ap, ◌∙◌, ⊎_elim, arith}
use mathlib.Core.Bool.{false≢true}
use Rattle.std.proofs.lemmas.List.{get_or_past}
use Rattle.std.proofs.lemmas.Bool.{cases_lt, lt-ltb, le-ltb}
use Rattle.words.specs.Bits.{has_bit}
use Rattle.words.specs.Iter.{counted}
use Rattle.words.specs.Packed.{stacked}
use Rattle.grammar.specs.Grammar.{pick, none_of, Grammar, rule}
use Rattle.grammar.specs.Places.{places, rest, owner, next_code}
use Rattle.grammar.proofs.Lists.{never}
use Rattle.grammar.proofs.Places.{place_parts}
use Rattle.items.specs.Sets.{goto, reduce_place, reduce_at, shift_place, shift_at}
use Rattle.parser.specs.Drive.{items_of, Config, config, shifted, reduced, full, replace_handle, shift_move, reduce_move}

-- the item set behind one symbol more
pub items_more : (g : Grammar) (cells : List ℕ) (k : ℕ) {s r : List ℕ} → r ≡ goto g (get_or cells k 0) s → s ≡ items_of g (stacked k cells) →
    r ≡ items_of g (stacked (k + 1) cells)
unfolding items_of stacked
items_more g cells k e d = e ∙ ap (goto g (get_or cells k 0)) d ∙ ap (λ n. items_of g (stacked n cells)) (let z : suc k ≡ k + 1 = omega arith in z)

-- ---- what an action says

module _ (g : Grammar) (s : List ℕ) (t : ℕ) where
  -- a rule that is reduced is a rule
  reduces_rule : (n r : ℕ) (rs : List ℕ) → n ≤ places g → counted n (reduce_place g s t) [] ≡ r ∷ rs → r < length g
  unfolding counted
  reduces_rule zero r rs h e = never (cc)
  reduces_rule (suc n) r rs h e = go _ refl e (reduces_rule n r rs (omega arith))
    where
      found : List ℕ
      found = counted n (reduce_place g s t) []

      go : (b : Bool) → (none_of found && (eqb (next_code (rest g n)) 64 && has_bit t (get_or s n 0))) ≡ b → pick b (owner g n ∷ []) found ≡ r ∷ rs →
          (found ≡ r ∷ rs → r < length g) → r < length g
      go true q f before = let o : owner g n ≡ r = cc in let w = (place_parts g n (omega arith)).owner_within in omega arith
      go false q f before = before f

  pub reduce_at_rule : (r : ℕ) (rs : List ℕ) → reduce_at g s t ≡ r ∷ rs → r < length g
  unfolding reduce_at
  reduce_at_rule r rs e = reduces_rule (places g) r rs (omega arith) e

  -- what is shifted is a sign
  shifts_sign : (n : ℕ) → 24 ≤ t → counted n (shift_place g s t) false ≡ false
  unfolding counted
  shifts_sign zero h = refl
  shifts_sign (suc n) h = rw (le-ltb t 24 h) (shifts_sign n h)

  pub shift_at_sign : shift_at g s t ≡ true → t < 24
  unfolding shift_at
  shift_at_sign e = ⊎_elim (λ l. l) (λ l. absurd (false≢true (sym (shifts_sign (places g) l) ∙ e))) (cases_lt t 24)

-- a sign that is ahead is of the text
pub sign_ahead : (ts : List ℕ) (k : ℕ) → get_or ts k 24 < 24 → k < length ts
sign_ahead ts k h = ⊎_elim (λ l. l) (λ l. let e = get_or_past ts k 24 l in absurd (omega arith)) (cases_lt k (length ts))

-- ---- a symbol pushed, or no room for it

module _ (g : Grammar) (c : Config) where
  pub shift_done : (t : ℕ) (cs : List ℕ) (h k : ℕ) (s : List ℕ) → c.height < length c.cells → cs ≡ set c.cells c.height t →
      h ≡ suc c.height → k ≡ suc c.taken → s ≡ goto g t c.items → shift_move g c t ≡ shifted (config cs h k s)
  unfolding shift_move
  shift_done t cs h k s l p q r u = rw (lt-ltb c.height (length c.cells) l, p, q, r, u) refl

  pub shift_full : (t : ℕ) → length c.cells ≤ c.height → shift_move g c t ≡ full
  unfolding shift_move
  shift_full t l = rw (le-ltb c.height (length c.cells) l) refl

  module _ (r n at code : ℕ) (en : n ≡ length (rule g r).right) (ea : at ≡ c.height - n) (ec : code ≡ 32 + (rule g r).left) where
    same_reduce : reduce_move g c r ≡ replace_handle g c r n at code
    unfolding reduce_move
    same_reduce = ap (λ z. replace_handle g c r z (c.height - z) (32 + (rule g r).left)) (sym en)
        ∙ ap (λ z. replace_handle g c r n z (32 + (rule g r).left)) (sym ea) ∙ ap (replace_handle g c r n at) (sym ec)

    pub reduce_done : (cs : List ℕ) (h : ℕ) (s : List ℕ) → at < length c.cells → cs ≡ set c.cells at code →
        h ≡ suc at → s ≡ pick (eqb n 0) (goto g code c.items) (items_of g (stacked h cs)) → reduce_move g c r ≡ reduced r (config cs h c.taken s)
    reduce_done cs h s l p q u = same_reduce ∙ rw (lt-ltb at (length c.cells) l, u, q, p) refl

    pub reduce_full : length c.cells ≤ at → reduce_move g c r ≡ full
    reduce_full l = same_reduce ∙ rw (le-ltb at (length c.cells) l) refl
