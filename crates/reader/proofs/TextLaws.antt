-- What is read of the memory where a text, or a configuration, was written.
use Rattle.std.proofs.Common.{◌≡◌, ℕ, ◌+◌, ◌*◌, ◌<◌, ◌≤◌, true, ◌≢◌, List, length, get_or, take, drop, set, replicate, sym, refl, ap, ◌∙◌, ap₂, arith, length-set, get_or-set_other, get_or-set_same, take_at, drop-set-lt, ext_get_or}
use lib.ListN.{length-replicate, get_or-replicate}
use Rattle.words.specs.Packed.{packed, unpacked}
use Rattle.words.specs.Regions.{region, replaced}
use Rattle.words.proofs.Regions.{length_region, length_replaced, region_same, region_below, region_above, get_below, get_region, get_inside}
use Rattle.words.proofs.Packing.{unpacked_zeroes}
use Rattle.grammar.specs.Grammar.{every, each}
use Rattle.parser.specs.Drive.{Config}
use Rattle.reader.specs.Memory.{Layout, Apart, phase_in, height_in, taken_in, text_in, with_text, stack_in, with_config, cleared, over, low_byte, loaded}
use Rattle.reader.proofs.MemoryLaws.{length_over, length_cleared, loaded_set, loaded_replaced, loaded_text, low_bytes_lem}
use Rattle.reader.proofs.PackedBytes.{a_byte, length_packed}

-- a number written below a region
region_past_set : (a n i x : ℕ) (m : List ℕ) → i < a → region a n (set m i x) ≡ region a n m
region_past_set a n i x m h = ap (take n) (drop-set-lt a m i x h)

-- three numbers written one after the other
module _ (m : List ℕ) (x y z : ℕ) (long : 261 ≤ length m) where
  abbrev three : List ℕ
  three = set (set (set m 258 x) 259 y) 260 z

  length_three : length three ≡ length m
  length_three = length-set (set (set m 258 x) 259 y) 260 z ∙ length-set (set m 258 x) 259 y ∙ length-set m 258 x

  three_first : get_or three 258 0 ≡ x
  three_first =
      let a : ◌≢◌ {A = ℕ} 258 260 = omega arith in
      let b : ◌≢◌ {A = ℕ} 258 259 = omega arith in
      let c : 258 < length m = omega arith in
      get_or-set_other (set (set m 258 x) 259 y) 260 258 z 0 a ∙ get_or-set_other (set m 258 x) 259 258 y 0 b ∙ get_or-set_same m 258 x 0 c

  three_second : get_or three 259 0 ≡ y
  three_second =
      let a : ◌≢◌ {A = ℕ} 259 260 = omega arith in
      let c : 259 < length (set m 258 x) = omega (arith, length-set m 258 x) in
      get_or-set_other (set (set m 258 x) 259 y) 260 259 z 0 a ∙ get_or-set_same (set m 258 x) 259 y 0 c

  three_third : get_or three 260 0 ≡ z
  three_third =
      let c : 260 < length (set (set m 258 x) 259 y) = omega (arith, length-set (set m 258 x) 259 y, length-set m 258 x) in
      get_or-set_same (set (set m 258 x) 259 y) 260 z 0 c

  three_other : (i : ℕ) → 261 ≤ i → get_or three i 0 ≡ get_or m i 0
  three_other i h =
      let a : i ≢ 260 = omega arith in
      let b : i ≢ 259 = omega arith in
      let c : i ≢ 258 = omega arith in
      get_or-set_other (set (set m 258 x) 259 y) 260 i z 0 a ∙ get_or-set_other (set m 258 x) 259 i y 0 b ∙ get_or-set_other m 258 i x 0 c

  three_region : (a n : ℕ) → 261 ≤ a → region a n three ≡ region a n m
  three_region a n h =
      region_past_set a n 260 z (set (set m 258 x) 259 y) (omega arith) ∙ region_past_set a n 259 y (set m 258 x) (omega arith)
      ∙ region_past_set a n 258 x m (omega arith)

  three_loaded : loaded three ≡ loaded m
  three_loaded =
      loaded_set 260 z (set (set m 258 x) 259 y) (omega arith) ∙ loaded_set 259 y (set m 258 x) (omega arith) ∙ loaded_set 258 x m (omega arith)

text_same : (m m₁ : List ℕ) → get_or m₁ 261 0 ≡ get_or m 261 0 → region 262 4096 m₁ ≡ region 262 4096 m → text_in m₁ ≡ text_in m
text_same m m₁ e r = ap₂ (λ (n : ℕ) (l : List ℕ). each low_byte (take n l)) e r

module _ (l : Layout) (apart : Apart l) (m : List ℕ) (long : length m ≡ l.words) where
  pub spacious : 4358 ≤ length m
  spacious = omega (arith, apart.work_behind, apart.pairs_behind, apart.within)

  pub stack_within : l.work + l.fuel + l.stack ≤ length m
  stack_within = omega (arith, apart.pairs_behind, apart.within)

  pub work_within : l.work + (l.fuel + l.stack) ≤ length m
  work_within = omega (arith, apart.pairs_behind, apart.within)

  -- A CONFIGURATION
  module _ (phase : ℕ) (c : Config) (size : length c.cells ≡ 8 * l.stack) (bytes : every a_byte c.cells ≡ true) where
    abbrev base : List ℕ
    base = replaced (l.work + l.fuel) l.stack (packed c.cells) m

    words : length (packed c.cells) ≡ l.stack
    words = length_packed c.cells l.stack size bytes

    length_base : length base ≡ length m
    length_base = length_replaced (l.work + l.fuel) l.stack m (packed c.cells) stack_within words

    base_long : 261 ≤ length base
    base_long = omega (arith, length_base, spacious)

    pub config_length : length (with_config l phase c m) ≡ length m
    config_length = length_three base phase c.height c.taken base_long ∙ length_base

    pub config_phase : phase_in (with_config l phase c m) ≡ phase
    config_phase = three_first base phase c.height c.taken base_long

    pub config_height : height_in (with_config l phase c m) ≡ c.height
    config_height = three_second base phase c.height c.taken base_long

    pub config_taken : taken_in (with_config l phase c m) ≡ c.taken
    config_taken = three_third base phase c.height c.taken base_long

    pub config_stack : stack_in l (with_config l phase c m) ≡ packed c.cells
    config_stack =
        three_region base phase c.height c.taken base_long (l.work + l.fuel) l.stack (omega (arith, apart.work_behind))
        ∙ region_same (l.work + l.fuel) l.stack m (packed c.cells) stack_within words

    pub config_text : text_in (with_config l phase c m) ≡ text_in m
    config_text =
        let low : 4358 ≤ l.work + l.fuel = omega (arith, apart.work_behind) in
        text_same m (with_config l phase c m)
        (three_other base phase c.height c.taken base_long 261 (omega arith)
        ∙ get_below (l.work + l.fuel) l.stack m (packed c.cells) stack_within words 261 0 (omega arith))
        (three_region base phase c.height c.taken base_long 262 4096 (omega arith)
        ∙ region_below (l.work + l.fuel) l.stack m (packed c.cells) stack_within words 262 4096 (omega arith))

    pub config_loaded : loaded (with_config l phase c m) ≡ loaded m
    config_loaded =
        three_loaded base phase c.height c.taken base_long
        ∙ loaded_replaced (l.work + l.fuel) l.stack (packed c.cells) m (omega (arith, apart.work_behind)) stack_within words

  -- A TEXT
  module _ (ts : List ℕ) (short : length ts ≤ 4096) (bytes : every a_byte ts ≡ true) where
    abbrev first : List ℕ
    first = set (set (set m 258 1) 259 0) 260 0

    abbrev heads : List ℕ
    heads = set first 261 (length ts)

    long_enough : 261 ≤ length m
    long_enough = omega (arith, spacious)

    length_heads : length heads ≡ length m
    length_heads = length-set first 261 (length ts) ∙ length_three m 1 0 0 long_enough

    text_within : 262 + 4096 ≤ length heads
    text_within = omega (arith, length_heads, spacious)

    text_row : length (over ts (region 262 4096 m)) ≡ 4096
    text_row =
        let r : length (region 262 4096 m) ≡ 4096 = length_region 262 4096 m (omega (arith, spacious)) in
        length_over ts (region 262 4096 m) (omega arith) ∙ r

    pub text_length : length (with_text ts m) ≡ length m
    text_length = length_replaced 262 4096 heads (over ts (region 262 4096 m)) text_within text_row ∙ length_heads

    below_261 : (i : ℕ) → i < 261 → get_or (with_text ts m) i 0 ≡ get_or first i 0
    below_261 i h =
        let ne : i ≢ 261 = omega arith in
        get_below 262 4096 heads (over ts (region 262 4096 m)) text_within text_row i 0 (omega arith) ∙ get_or-set_other first 261 i (length ts) 0 ne

    pub text_phase : phase_in (with_text ts m) ≡ 1
    text_phase = below_261 258 (omega arith) ∙ three_first m 1 0 0 long_enough

    pub text_height : height_in (with_text ts m) ≡ 0
    text_height = below_261 259 (omega arith) ∙ three_second m 1 0 0 long_enough

    pub text_taken : taken_in (with_text ts m) ≡ 0
    text_taken = below_261 260 (omega arith) ∙ three_third m 1 0 0 long_enough

    pub text_text : text_in (with_text ts m) ≡ ts
    text_text =
        let inside : 261 < length first = omega (arith, spacious, length_three m 1 0 0 long_enough) in
        let n : get_or (with_text ts m) 261 0 ≡ length ts =
        get_below 262 4096 heads (over ts (region 262 4096 m)) text_within text_row 261 0 (omega arith)
        ∙ get_or-set_same first 261 (length ts) 0 inside in
        let r : region 262 4096 (with_text ts m) ≡ over ts (region 262 4096 m) =
        region_same 262 4096 heads (over ts (region 262 4096 m)) text_within text_row in
        ap₂ (λ (n : ℕ) (l : List ℕ). each low_byte (take n l)) n r
        ∙ ap (each low_byte) (take_at ts (drop (length ts) (region 262 4096 m)) (length ts) refl) ∙ low_bytes_lem ts bytes

    pub text_stack : stack_in l (with_text ts m) ≡ stack_in l m
    text_stack =
        let low : 4358 ≤ l.work + l.fuel = omega (arith, apart.work_behind) in
        region_above 262 4096 heads (over ts (region 262 4096 m)) text_within text_row (l.work + l.fuel) l.stack (omega arith)
        ∙ region_past_set (l.work + l.fuel) l.stack 261 (length ts) first (omega arith)
        ∙ three_region m 1 0 0 long_enough (l.work + l.fuel) l.stack (omega arith)

    pub text_loaded : loaded (with_text ts m) ≡ loaded m
    text_loaded = loaded_text ts m spacious short

  -- NOTHING, in the countdown and the stack
  abbrev none_left : List ℕ
  none_left = cleared l.work (l.fuel + l.stack) m

  pub cleared_length : length none_left ≡ length m
  cleared_length = length_cleared l.work (l.fuel + l.stack) m work_within

  pub cleared_loaded : loaded none_left ≡ loaded m
  cleared_loaded =
      loaded_replaced l.work (l.fuel + l.stack) (replicate (l.fuel + l.stack) 0) m (omega (arith, apart.work_behind)) work_within
      (length-replicate {A = ℕ} (l.fuel + l.stack) 0)

  cleared_stack : stack_in l none_left ≡ replicate l.stack 0
  cleared_stack =
      let zs : List ℕ = replicate (l.fuel + l.stack) 0 in
      let n : length zs ≡ l.fuel + l.stack = length-replicate {A = ℕ} (l.fuel + l.stack) 0 in
      let w : l.work + l.fuel + l.stack ≤ length none_left = omega (arith, stack_within, cleared_length) in
      let a : length (stack_in l none_left) ≡ l.stack = length_region (l.work + l.fuel) l.stack none_left w in
      let b : length (replicate {A = ℕ} l.stack 0) ≡ l.stack = length-replicate {A = ℕ} l.stack 0 in
      ext_get_or 0 (stack_in l none_left) (replicate l.stack 0) (a ∙ sym b)
      (λ i h. let k : i < l.stack = omega arith in
      let e : l.work + l.fuel + i ≡ l.work + (l.fuel + i) = omega arith in
      get_region (l.work + l.fuel) l.stack none_left i 0 k ∙ ap (λ j. get_or none_left j 0) e
      ∙ get_inside l.work (l.fuel + l.stack) m zs work_within n (l.fuel + i) 0 (omega arith)
      ∙ get_or-replicate (l.fuel + l.stack) (l.fuel + i) 0 0 (omega arith) ∙ sym (get_or-replicate l.stack i 0 0 k))

  pub cleared_cells : unpacked (stack_in l none_left) ≡ replicate (8 * l.stack) 0
  cleared_cells = ap unpacked cleared_stack ∙ unpacked_zeroes l.stack
