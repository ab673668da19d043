-- What reading, telling and expecting keep of the memory, whatever stands there: its length, and that its numbers are small.
use Rattle.std.proofs.Common.{◌≡◌, ℕ, zero, suc, ◌+◌, ◌*◌, ◌<◌, ◌≤◌, Bool, true, false, eqb, ltb, leb, List, [], ◌∷◌, length, get_or, take, drop, sym, refl, ap, ◌∙◌, arith, lit<, length-take}
use Rattle.std.proofs.lemmas.Bool.{and_parts, leb-true, ltb-true}
use Rattle.words.specs.Packed.{packed}
use Rattle.words.specs.Regions.{region}
use Rattle.words.proofs.PackedLaws.{length_unpacked}
use Rattle.words.proofs.Regions.{length_region}
use Rattle.grammar.specs.Grammar.{pick, every, Grammar}
use Rattle.grammar.specs.Spelling.{grammar_ok, grammar_of}
use Rattle.grammar.proofs.Lists.{never}
use Rattle.grammar.proofs.Spelled.{grammar_said, length_each}
use Rattle.grammar.proofs.Sizes.{Sizes, sizes}
use Rattle.parser.specs.Drive.{Config, Ending, accepted, wrong, gave_out, check_of, Following, followed_by, wrong_before, unknown, next_of, Advanced, ends, none, advance_of}
use Rattle.reader.specs.House.{a_text, Loaded}
use Rattle.reader.specs.Promise.{done, refused}
use Rattle.reader.specs.Memory.{Layout, Apart, moves_of, phase_in, taken_in, with_phase, cleared, spelling_in, text_in, with_text, low_byte, stack_in, config_in, with_config, loaded}
use Rattle.reader.specs.Machine.{kept, on_ended, tells_with, tells, on_ending, reads_with, reads, on_following, expects_with, expects, a_refusal, goes_on}
use Rattle.reader.proofs.MemoryLaws.{small, small_set, small_region, small_replaced, small_over, small_bytes}
use Rattle.reader.proofs.Keeping.{Keeps, keeps_phase, keeps_cleared}
use Rattle.reader.proofs.PackedBytes.{a_byte, bytes_unpacked, small_packed}
use Rattle.reader.proofs.Advancing.{Sized, SizedWithin, advance_sized}
use Rattle.reader.proofs.TextLaws.{stack_within, work_within, config_length, text_length}
use Rattle.reader.proofs.ReadAnswered.{signs_are_bytes}

-- a number of a memory that is small
small_at : (m : List ℕ) (i : ℕ) → every small m ≡ true → get_or m i 0 < 18446744073709551616
unfolding every
small_at [] i h = lit< tt
small_at (w ∷ m) zero h = ltb-true w 18446744073709551616 (and_parts (small w) (every small m) h).0
small_at (w ∷ m) (suc i) h = small_at m i (and_parts (small w) (every small m) h).1

keeps_through : (m m₁ m₂ : List ℕ) → Keeps m m₁ → Keeps m₁ m₂ → Keeps m m₂
keeps_through m m₁ m₂ a b = (b.0 ∙ a.0, λ s. b.1 (a.1 s))

-- a grammar that is loaded fits
loaded_fits : (m : List ℕ) (g : Grammar) (gs : Loaded) → loaded m ≡ g ∷ gs → Sizes g
unfolding loaded
loaded_fits m g gs e = go (grammar_ok (spelling_in m)) refl e
  where
    go : (b : Bool) → grammar_ok (spelling_in m) ≡ b → pick b (grammar_of (spelling_in m) ∷ []) [] ≡ g ∷ gs → Sizes g
    go true o q =
        let z : grammar_of (spelling_in m) ≡ g = cc in
        rw (sym z) (sizes (grammar_of (spelling_in m)) (grammar_said (spelling_in m) o).0)
    go false o q = never (cc)

phase_small : (b : Bool) → pick b 2 1 < 18446744073709551616
phase_small true = lit< tt
phase_small false = lit< tt

module _ (l : Layout) (apart : Apart l) (few : l.words ≤ 524288) (m : List ℕ) (long : length m ≡ l.words) where
  -- a text in memory is short
  text_short : length (text_in m) ≤ 4096
  text_short =
      let r : length (region 262 4096 m) ≤ 4096 = omega (arith, length-take 4096 (drop 262 m)) in
      omega (arith, length_each low_byte (take (get_or m 261 0) (region 262 4096 m)), length-take (get_or m 261 0) (region 262 4096 m))

  room_small : 8 * l.stack < 18446744073709551616
  room_small = omega (arith, stack_within l apart m long)

  -- what the configuration that is taken up comes to
  comes_to : (g : Grammar) (most r : ℕ) (d : Config) → Sizes g → taken_in m ≤ most → 4096 ≤ most → advance_of g (text_in m) (config_in l g m) ≡ ends r d →
      SizedWithin (8 * l.stack) most d
  comes_to g most r d fits a b e =
      let n : length (stack_in l m) ≡ l.stack = length_region (l.work + l.fuel) l.stack m (stack_within l apart m long) in
      let z : Sized (8 * l.stack) most (config_in l g m) =
      record { long = length_unpacked (stack_in l m) ∙ ap (λ k. 8 * k) n; bytes = bytes_unpacked (stack_in l m); few = a } in
      advance_sized g fits (text_in m) (8 * l.stack) most (omega (arith, text_short)) (config_in l g m) d r z e

  keeps_config : (phase : ℕ) (d : Config) → phase < 18446744073709551616 → Sized (8 * l.stack) (taken_in m + 4096) d →
      (every small m ≡ true → SizedWithin (8 * l.stack) 18446744073709551615 d) → Keeps m (with_config l phase d m)
  keeps_config phase d p z w = (
    config_length l apart m long phase d z.long z.bytes,
    λ s. let x = w s in
        let low : d.height < 18446744073709551616 = omega (arith, x.low, room_small) in
        let part : d.taken < 18446744073709551616 = omega (arith, x.sized.few) in
        small_set _ 260 d.taken part (small_set _ 259 d.height low (small_set _ 258 phase p
        (small_replaced (l.work + l.fuel) l.stack (packed d.cells) m (small_packed d.cells l.stack z.long z.bytes) s))),
  )

  advanced_keeps : (g : Grammar) (a : Advanced) → Sizes g → advance_of g (text_in m) (config_in l g m) ≡ a → Keeps m (on_ended l m a).memory
  unfolding on_ended
  advanced_keeps g (ends r d) fits e =
      keeps_config (pick (eqb r 0) 2 1) d (phase_small (eqb r 0)) (comes_to g (taken_in m + 4096) r d fits (omega arith) (omega arith) e).sized
      (λ s. comes_to g 18446744073709551615 r d fits (omega (arith, small_at m 260 s)) (omega arith) e)
  advanced_keeps g none fits e =
      keeps_phase 0 m _ (omega arith) (keeps_cleared (l.work + l.fuel) l.stack m (stack_within l apart m long))

  with_keeps : (old : Loaded) → loaded m ≡ old → Keeps m (tells_with l m old).memory
  unfolding tells_with
  with_keeps [] e = (refl, λ s. s)
  with_keeps (g ∷ gs) e = advanced_keeps g (advance_of g (text_in m) (config_in l g m)) (loaded_fits m g gs e) refl

  pub tells_keeps : Keeps m (tells l m).memory
  tells_keeps = with_keeps (loaded m) refl

  keeps_text : (ts : List ℕ) → length ts ≤ 4096 → every a_byte ts ≡ true → Keeps m (with_text ts m)
  keeps_text ts short bytes = (
    text_length l apart m long ts short bytes,
    λ s. let n : length ts < 18446744073709551616 = omega arith in
        small_replaced 262 4096 _ _ (small_over ts _ (small_bytes ts bytes) (small_region 262 4096 m s))
        (small_set _ 261 (length ts) n (small_set _ 260 0 (lit< tt) (small_set _ 259 0 (lit< tt) (small_set m 258 1 (lit< tt) s)))),
  )

  pub goes_on_keeps : Keeps m (goes_on l m).memory
  unfolding goes_on
  goes_on_keeps = go (eqb (phase_in m) 1) (eqb (phase_in m) 2) (a_refusal (phase_in m))
    where
      go : (b₁ b₂ b₃ : Bool) → Keeps m (pick b₁ (tells l m) (pick b₂ (kept (with_phase 0 m) done)
          (pick b₃ (kept (with_phase 0 m) (refused (phase_in m))) (kept m (refused 1))))).memory
      go true b₂ b₃ = tells_keeps
      go false true b₃ = keeps_phase 0 m m (lit< tt) (refl, λ s. s)
      go false false true = keeps_phase 0 m m (lit< tt) (refl, λ s. s)
      go false false false = (refl, λ s. s)

module _ (l : Layout) (apart : Apart l) (few : l.words ≤ 524288) (m ts : List ℕ) (long : length m ≡ l.words) (signs : a_text ts ≡ true) where
  free : Keeps m (cleared l.work (l.fuel + l.stack) m)
  free = keeps_cleared l.work (l.fuel + l.stack) m (work_within l apart m long)

  ending_keeps : (e : Ending) → Keeps m (on_ending l (cleared l.work (l.fuel + l.stack) m) ts e).memory
  unfolding on_ending
  ending_keeps accepted =
      let m₁ : List ℕ = cleared l.work (l.fuel + l.stack) m in
      let long₁ : length m₁ ≡ l.words = free.0 ∙ long in
      let p = and_parts (leb (length ts) 4096) (every (λ t. ltb t 24) ts) signs in
      let k : Keeps m₁ (with_text ts m₁) = keeps_text l apart few m₁ long₁ ts (leb-true (length ts) 4096 p.0) (signs_are_bytes ts p.1) in
      keeps_through m (with_text ts m₁) _ (keeps_through m m₁ (with_text ts m₁) free k) (tells_keeps l apart few (with_text ts m₁) (k.0 ∙ long₁))
  ending_keeps (wrong p) = keeps_phase 4 m _ (lit< tt) free
  ending_keeps gave_out = free

  with_loaded : (old : Loaded) → Keeps m (reads_with l m ts old).memory
  unfolding reads_with
  with_loaded [] = (refl, λ s. s)
  with_loaded (g ∷ gs) = ending_keeps (check_of g ts (8 * l.stack) (moves_of l.fuel))

  pub reads_keeps : Keeps m (reads l m ts).memory
  reads_keeps = with_loaded (loaded m)

  following_keeps : (e : Following) → Keeps m (on_following (cleared l.work (l.fuel + l.stack) m) e).memory
  unfolding on_following
  following_keeps (followed_by ks) = keeps_phase 2 m _ (lit< tt) free
  following_keeps (wrong_before p) = keeps_phase 4 m _ (lit< tt) free
  following_keeps unknown = free

  expects_loaded : (old : Loaded) → Keeps m (expects_with l m ts old).memory
  unfolding expects_with
  expects_loaded [] = (refl, λ s. s)
  expects_loaded (g ∷ gs) = following_keeps (next_of g ts (8 * l.stack) (moves_of l.fuel))

  pub expects_keeps : Keeps m (expects l m ts).memory
  expects_keeps = expects_loaded (loaded m)
