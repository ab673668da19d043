-- What a run on to the next rule keeps of a configuration: the room of its stack, that its symbols are bytes, and a bound on the signs taken.
use Rattle.std.proofs.Common.{◌≡◌, ℕ, zero, suc, ◌+◌, ◌-◌, ◌<◌, ◌≤◌, Bool, true, false, ltb, List, [], ◌∷◌, length, get_or, set, refl, ◌∙◌, subst, arith, length-set}
use Rattle.std.proofs.lemmas.Bool.{and_parts, and_from, ltb-true, lt-ltb}
use Rattle.grammar.specs.Grammar.{pick, every, Grammar, rule}
use Rattle.grammar.proofs.Lists.{never}
use Rattle.grammar.proofs.Sizes.{Sizes}
use Rattle.items.specs.Sets.{reduce_at, shift_at, goto}
use Rattle.parser.specs.Drive.{Config, Moved, shifted, reduced, stuck, full, pushed, items_after, shift_move, reduce_move, on_action, moved}
use Rattle.parser.specs.Drive.{ends, on_advanced, advance_for, advance_of}
use Rattle.parser.proofs.Steps.{reduce_at_rule, shift_at_sign, sign_ahead}
use Rattle.reader.proofs.PackedBytes.{a_byte}

-- so much room, bytes in it, and so many signs taken at most
pub record Sized (room most : ℕ) (c : Config) : Type 0 where
  pub long : length c.cells ≡ room
  pub bytes : every a_byte c.cells ≡ true
  pub few : c.taken ≤ most

-- with the stack within its room
pub record SizedWithin (room most : ℕ) (c : Config) : Type 0 where
  pub sized : Sized room most c
  pub low : c.height ≤ room

unfoldable ComesTo : ℕ → ℕ → Moved → Type 0
ComesTo room most (shifted d) = SizedWithin room most d
ComesTo room most (reduced r d) = SizedWithin room most d
ComesTo room most stuck = Unit {0}
ComesTo room most full = Unit {0}

bytes_set : (bs : List ℕ) (i b : ℕ) → b < 256 → every a_byte bs ≡ true → every a_byte (set bs i b) ≡ true
unfolding every
bytes_set [] i b h k = refl
bytes_set (x ∷ bs) zero b h k = and_from _ _ (lt-ltb b 256 h) (and_parts (a_byte x) (every a_byte bs) k).1
bytes_set (x ∷ bs) (suc i) b h k = let p = and_parts (a_byte x) (every a_byte bs) k in and_from _ _ p.0 (bytes_set bs i b h p.1)

pushed_sized : (room most : ℕ) (c : Config) (at code k : ℕ) (s : List ℕ) → Sized room most c → at < length c.cells → code < 256 → k ≤ most →
    SizedWithin room most (pushed c at code k s)
pushed_sized room most c at code k s h l b f =
    let z : Sized room most (pushed c at code k s) =
    record { long = length-set c.cells at code ∙ h.long; bytes = bytes_set c.cells at code b h.bytes; few = f } in
    record { sized = z; low = omega (arith, h.long) }

module _ (g : Grammar) (fits : Sizes g) (ts : List ℕ) (room most : ℕ) (short : length ts ≤ most) where
  shift_sized : (c : Config) → Sized room most c → get_or ts c.taken 24 < 24 → ComesTo room most (shift_move g c (get_or ts c.taken 24))
  unfolding shift_move ComesTo
  shift_sized c h a = go (ltb c.height (length c.cells)) refl
    where
      t : ℕ
      t = get_or ts c.taken 24

      go : (b : Bool) → ltb c.height (length c.cells) ≡ b →
          ComesTo room most (pick b (shifted (pushed c c.height t (suc c.taken) (goto g t c.items))) full)
      go true e =
          let k = sign_ahead ts c.taken a in
          pushed_sized room most c c.height t (suc c.taken) (goto g t c.items) h (ltb-true c.height (length c.cells) e) (omega arith) (omega arith)
      go false e = tt

  reduce_sized : (c : Config) (r : ℕ) → Sized room most c → r < length g → ComesTo room most (reduce_move g c r)
  unfolding reduce_move ComesTo
  reduce_sized c r h k = go (ltb at (length c.cells)) refl
    where
      n : ℕ
      n = length (rule g r).right

      at : ℕ
      at = c.height - n

      code : ℕ
      code = 32 + (rule g r).left

      go : (b : Bool) → ltb at (length c.cells) ≡ b → ComesTo room most (pick b (reduced r (pushed c at code c.taken (items_after g c n at code))) full)
      go true e =
          let b : code < 256 = omega (arith, fits.left_below r k) in
          pushed_sized room most c at code c.taken (items_after g c n at code) h (ltb-true at (length c.cells) e) b h.few
      go false e = tt

  action_sized : (c : Config) (rs : List ℕ) → Sized room most c → reduce_at g c.items (get_or ts c.taken 24) ≡ rs →
      ComesTo room most (on_action g c (get_or ts c.taken 24) rs)
  unfolding on_action ComesTo
  action_sized c (r ∷ rs) h e = reduce_sized c r h (reduce_at_rule g c.items (get_or ts c.taken 24) r rs e)
  action_sized c [] h e = go (shift_at g c.items (get_or ts c.taken 24)) refl
    where
      go : (b : Bool) → shift_at g c.items (get_or ts c.taken 24) ≡ b → ComesTo room most (pick b (shift_move g c (get_or ts c.taken 24)) stuck)
      go true q = shift_sized c h (shift_at_sign g c.items (get_or ts c.taken 24) q)
      go false q = tt

  moved_sized : (c : Config) → Sized room most c → ComesTo room most (moved g ts c)
  unfolding moved
  moved_sized c h = action_sized c (reduce_at g c.items (get_or ts c.taken 24)) h refl

  for_sized : (n : ℕ) (c d : Config) (r : ℕ) → Sized room most c → advance_for n g ts c ≡ ends r d → SizedWithin room most d
  unfolding advance_for on_advanced ComesTo
  for_sized zero c d r h e = never (cc)
  for_sized (suc n) c d r h e = go (moved g ts c) (moved_sized c h) e (λ x. for_sized n x d r)
    where
      go : (m : Moved) → ComesTo room most m → on_advanced (advance_for n g ts) m ≡ ends r d →
          ((x : Config) → Sized room most x → advance_for n g ts x ≡ ends r d → SizedWithin room most d) → SizedWithin room most d
      go (shifted x) k e ih = ih x k.sized e
      go (reduced q x) k e ih = let z : x ≡ d = cc in subst (λ y. SizedWithin room most y) z k
      go stuck k e ih = never (cc)
      go full k e ih = never (cc)

  pub advance_sized : (c d : Config) (r : ℕ) → Sized room most c → advance_of g ts c ≡ ends r d → SizedWithin room most d
  unfolding advance_of
  advance_sized c d r h e = for_sized (suc (length ts)) c d r h e
