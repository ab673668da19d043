-- What is kept of the memory where something is written: its length, the size of its numbers, and the grammar that is loaded.
use Rattle.std.proofs.Common.{◌≡◌, ℕ, zero, suc, ◌+◌, ◌%◌, ◌<◌, ◌≤◌, Bool, true, ltb, ◌≢◌, List, [], ◌∷◌, ◌++◌, length, get_or, take, drop, set, replicate, refl, ap, ◌∙◌, ap₂, mod-eq_of_lt, arith, length-append, length-drop, length-set, get_or-set_other, get_or-set_same, take_at}
use lib.ListN.{length-replicate}
use Rattle.std.proofs.lemmas.Bool.{and_parts, and_from, ltb-true, lt-ltb}
use Rattle.words.specs.Regions.{region, replaced}
use Rattle.words.proofs.Regions.{length_region, length_replaced, region_same, region_below, get_below}
use Rattle.grammar.specs.Grammar.{pick, every, each, Grammar, a_grammar}
use Rattle.grammar.specs.Spelling.{grammar_ok, grammar_of, grammar_spelled}
use Rattle.grammar.proofs.Lists.{every_append}
use Rattle.grammar.proofs.Spelled.{grammar_back}
use Rattle.reader.specs.Memory.{cleared, over, low_byte, spelling_in, with_spelling, with_text, loaded}

-- SIZES
abbrev pub small : ℕ → Bool
small w = ltb w 18446744073709551616

pub small_set : (m : List ℕ) (i x : ℕ) → x < 18446744073709551616 → every small m ≡ true → every small (set m i x) ≡ true
unfolding every
small_set [] i x k h = refl
small_set (y ∷ m) zero x k h = and_from _ _ (lt-ltb x 18446744073709551616 k) (and_parts (small y) (every small m) h).1
small_set (y ∷ m) (suc i) x k h = let p = and_parts (small y) (every small m) h in and_from _ _ p.0 (small_set m i x k p.1)

every_take : (f : ℕ → Bool) (n : ℕ) (m : List ℕ) → every f m ≡ true → every f (take n m) ≡ true
unfolding every
every_take f zero m h = refl
every_take f (suc n) [] h = refl
every_take f (suc n) (x ∷ m) h = let p = and_parts (f x) (every f m) h in and_from _ _ p.0 (every_take f n m p.1)

pub every_drop : (f : ℕ → Bool) (n : ℕ) (m : List ℕ) → every f m ≡ true → every f (drop n m) ≡ true
unfolding every
every_drop f zero m h = h
every_drop f (suc n) [] h = refl
every_drop f (suc n) (x ∷ m) h = every_drop f n m (and_parts (f x) (every f m) h).1

pub small_region : (a n : ℕ) (m : List ℕ) → every small m ≡ true → every small (region a n m) ≡ true
small_region a n m h = every_take small n (drop a m) (every_drop small a m h)

pub small_replaced : (a n : ℕ) (ys m : List ℕ) → every small ys ≡ true → every small m ≡ true → every small (replaced a n ys m) ≡ true
small_replaced a n ys m k h =
    every_append small (take a m) (ys ++ drop n (drop a m)) (every_take small a m h)
    (every_append small ys (drop n (drop a m)) k (every_drop small n (drop a m) (every_drop small a m h)))

pub small_zeros : (n : ℕ) → every small (replicate n 0) ≡ true
unfolding every
small_zeros zero = refl
small_zeros (suc n) = small_zeros n

pub small_over : (xs ys : List ℕ) → every small xs ≡ true → every small ys ≡ true → every small (over xs ys) ≡ true
small_over xs ys k h = every_append small xs (drop (length xs) ys) k (every_drop small (length xs) ys h)

-- bytes are small
pub small_bytes : (bs : List ℕ) → every (λ b. ltb b 256) bs ≡ true → every small bs ≡ true
unfolding every
small_bytes [] h = refl
small_bytes (b ∷ bs) h =
    let p = and_parts (ltb b 256) (every (λ b. ltb b 256) bs) h in
    and_from _ _ (lt-ltb b 18446744073709551616 (omega (arith, ltb-true b 256 p.0))) (small_bytes bs p.1)

-- LENGTHS
pub length_over : (xs ys : List ℕ) → length xs ≤ length ys → length (over xs ys) ≡ length ys
length_over xs ys h = omega (arith, length-append xs (drop (length xs) ys), length-drop (length xs) ys)

pub length_cleared : (a n : ℕ) (m : List ℕ) → a + n ≤ length m → length (cleared a n m) ≡ length m
length_cleared a n m h = length_replaced a n m (replicate n 0) h (length-replicate n 0)

pub length_spelled : (bs m : List ℕ) → 258 < length m → length bs ≤ 257 → length (with_spelling bs m) ≡ length m
length_spelled bs m h k =
    let r : length (region 1 257 m) ≡ 257 = length_region 1 257 m (omega arith) in
    let o : length (over bs (region 1 257 m)) ≡ 257 = length_over bs (region 1 257 m) (omega arith) ∙ r in
    let s = length-set m 0 (length bs) in
    length_replaced 1 257 (set m 0 (length bs)) (over bs (region 1 257 m)) (omega arith) o ∙ s

-- THE GRAMMAR that is loaded
loaded_same : (m m₁ : List ℕ) → get_or m₁ 0 0 ≡ get_or m 0 0 → region 1 257 m₁ ≡ region 1 257 m → loaded m₁ ≡ loaded m
unfolding loaded
loaded_same m m₁ e r =
    ap (λ (bs : List ℕ). pick (grammar_ok bs) (grammar_of bs ∷ []) []) (ap₂ (λ (n : ℕ) (l : List ℕ). each low_byte (take n l)) e r)

take_set : (n i x : ℕ) (m : List ℕ) → n ≤ i → take n (set m i x) ≡ take n m
take_set zero i x m h = refl
take_set (suc n) i x [] h = refl
take_set (suc n) zero x (y ∷ m) h = absurd (omega arith)
take_set (suc n) (suc i) x (y ∷ m) h = ap (λ (l : List ℕ). y ∷ l) (take_set n i x m (omega arith))

pub region_set : (a n i x : ℕ) (m : List ℕ) → a + n ≤ i → region a n (set m i x) ≡ region a n m
region_set zero n i x m h = take_set n i x m (omega arith)
region_set (suc a) n i x [] h = refl
region_set (suc a) n zero x (y ∷ m) h = absurd (omega arith)
region_set (suc a) n (suc i) x (y ∷ m) h = region_set a n i x m (omega arith)

pub loaded_set : (i x : ℕ) (m : List ℕ) → 258 ≤ i → loaded (set m i x) ≡ loaded m
loaded_set i x m h =
    let ne : ◌≢◌ {A = ℕ} 0 i = omega arith in
    loaded_same m (set m i x) (get_or-set_other m i 0 x 0 ne) (region_set 1 257 i x m (omega arith))

pub loaded_replaced : (a n : ℕ) (ys m : List ℕ) → 258 ≤ a → a + n ≤ length m → length ys ≡ n → loaded (replaced a n ys m) ≡ loaded m
loaded_replaced a n ys m h f l =
    loaded_same m (replaced a n ys m) (get_below a n m ys f l 0 0 (omega arith)) (region_below a n m ys f l 1 257 (omega arith))

pub low_bytes_lem : (bs : List ℕ) → every (λ b. ltb b 256) bs ≡ true → each low_byte bs ≡ bs
unfolding every each
low_bytes_lem [] h = refl
low_bytes_lem (b ∷ bs) h =
    let p = and_parts (ltb b 256) (every (λ b. ltb b 256) bs) h in
    let e : b % 256 ≡ b = mod-eq_of_lt (ltb-true b 256 p.0) in
    ap₂ (λ (x : ℕ) (l : List ℕ). x ∷ l) e (low_bytes_lem bs p.1)

-- a text that is stored
pub loaded_text : (ts m : List ℕ) → 4358 ≤ length m → length ts ≤ 4096 → loaded (with_text ts m) ≡ loaded m
loaded_text ts m long short =
    let one = set m 258 1 in
    let two = set one 259 0 in
    let three = set two 260 0 in
    let heads = set three 261 (length ts) in
    let n : length heads ≡ length m = length-set three 261 (length ts) ∙ length-set two 260 0 ∙ length-set one 259 0 ∙ length-set m 258 1 in
    let r : length (region 262 4096 m) ≡ 4096 = length_region 262 4096 m (omega arith) in
    let row = length_over ts (region 262 4096 m) (omega arith) ∙ r in
    loaded_replaced 262 4096 (over ts (region 262 4096 m)) heads (omega arith) (omega arith) row
    ∙ loaded_set 261 (length ts) three (omega arith) ∙ loaded_set 260 0 two (omega arith) ∙ loaded_set 259 0 one (omega arith) ∙ loaded_set 258 1 m (omega arith)

pub loaded_spelled : (g : Grammar) (m : List ℕ) → 258 < length m → length (grammar_spelled g) ≤ 257 → every (λ b. ltb b 256) (grammar_spelled g) ≡ true →
    a_grammar g ≡ true → loaded (with_spelling (grammar_spelled g) m) ≡ g ∷ []
unfolding loaded
loaded_spelled g m h k b fits =
    let bs : List ℕ = grammar_spelled g in
    let m₁ : List ℕ = set m 0 (length bs) in
    let s : length m₁ ≡ length m = length-set m 0 (length bs) in
    let r : length (region 1 257 m) ≡ 257 = length_region 1 257 m (omega arith) in
    let o : length (over bs (region 1 257 m)) ≡ 257 = length_over bs (region 1 257 m) (omega arith) ∙ r in
    let w : 1 + 257 ≤ length m₁ = omega arith in
    let in₀ : 0 < length m = omega arith in
    let n : get_or (with_spelling bs m) 0 0 ≡ length bs =
    get_below 1 257 m₁ (over bs (region 1 257 m)) w o 0 0 (omega arith) ∙ get_or-set_same m 0 (length bs) 0 in₀ in
    let p : region 1 257 (with_spelling bs m) ≡ over bs (region 1 257 m) = region_same 1 257 m₁ (over bs (region 1 257 m)) w o in
    let t : take (get_or (with_spelling bs m) 0 0) (region 1 257 (with_spelling bs m)) ≡ bs =
    ap₂ (λ (j : ℕ) (l : List ℕ). take j l) n p ∙ take_at bs (drop (length bs) (region 1 257 m)) (length bs) refl in
    let e : spelling_in (with_spelling bs m) ≡ bs = ap (each low_byte) t ∙ low_bytes_lem bs b in
    let q = grammar_back g fits in
    ap (λ (cs : List ℕ). pick (grammar_ok cs) (grammar_of cs ∷ []) []) e ∙ rw (q.0, q.1)

-- nothing is loaded at the start
pub loaded_zeros : (n : ℕ) → loaded (replicate n 0) ≡ []
unfolding loaded each grammar_ok
loaded_zeros zero = refl
loaded_zeros (suc n) = refl
