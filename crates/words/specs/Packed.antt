-- Bytes packed eight to a word, the first the lowest, and a stack of them. Assumes nothing: these are definitions.
use Rattle.std.specs.Prelude.{ℕ, zero, suc, ◌+◌, ◌*◌, ◌/◌, ◌%◌, ◌^◌, List, [], ◌∷◌, map, length, slice_index}
use Rattle.std.specs.List.{range_with_len}

-- byte j of a word
unfoldable pub byte : ℕ → ℕ → ℕ
byte w j = w / 2 ^ (8 * j) % 256

-- byte i of a row of words
unfoldable pub byte_at : List ℕ → ℕ → ℕ
byte_at m i = byte (slice_index m (i / 8)) (i % 8)

unfoldable pub unpacked : List ℕ → List ℕ
unpacked m = map (byte_at m) (range_with_len 0 (8 * length m))

-- the number of the n bytes f 0, f 1, .., the first the lowest
unfoldable pub joined : ℕ → (ℕ → ℕ) → ℕ
joined zero f = 0
joined (suc n) f = f n * 2 ^ (8 * n) + joined n f

-- word k of a row of bytes
unfoldable pub word_at : List ℕ → ℕ → ℕ
word_at bs k = joined 8 (λ j. slice_index bs (8 * k + j))

-- the words of a row of bytes, eight to a word
unfoldable pub packed : List ℕ → List ℕ
packed bs = map (word_at bs) (range_with_len 0 (length bs / 8))

-- the stack of the h first bytes, the last of them on top
unfoldable pub stacked : ℕ → List ℕ → List ℕ
stacked zero bs = []
stacked (suc h) bs = slice_index bs h ∷ stacked h bs
