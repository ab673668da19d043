-- The machine's memory: where it keeps the grammar, what it is doing, the text, the stack, and room to work in. Assumes nothing: these are definitions.
use Rattle.std.specs.Prelude.{◌≡◌, ℕ, ◌+◌, ◌-◌, ◌*◌, ◌%◌, ◌^◌, ◌≤◌, List, [], ◌∷◌, ◌++◌, length, take, drop, replicate, slice_index, slice_set}
use Rattle.words.specs.Packed.{packed, unpacked, stacked}
use Rattle.words.specs.Regions.{region, replaced}
use Rattle.grammar.specs.Grammar.{pick, each, Grammar}
use Rattle.grammar.specs.Spelling.{grammar_ok, grammar_of}
use Rattle.parser.specs.Drive.{Config, config, items_of}
use Rattle.parser.specs.DriveStatements.{most_symbols, most_moves}
use Rattle.reader.specs.House.{Loaded}

-- THE LAYOUT. Word 0: how many bytes the grammar's spelling has, 0 for none; then its bytes, 257 words; the phase; how many symbols are on the stack,
-- how many signs are taken, how many the text has, and the text, 4,096 words. Behind these the countdown, the stack and the pairs, as the layout has it.
pub record Layout : Type 0 where
  pub words : ℕ  -- of the whole memory
  pub work : ℕ  -- where the countdown begins
  pub fuel : ℕ  -- words of the countdown
  pub stack : ℕ  -- words of the stack, right behind it
  pub pairs : ℕ  -- where the pairs begin
  pub pair_words : ℕ

-- the largest number that so many words hold
unfoldable pub moves_of : ℕ → ℕ
moves_of fuel = 2 ^ (64 * fuel) - 1

-- no two regions share a word, all are within the memory, and there is room for the stack and the moves of the longest texts
pub record Apart (l : Layout) : Type 0 where
  pub work_behind : 4358 ≤ l.work
  pub pairs_behind : l.work + (l.fuel + l.stack) ≤ l.pairs
  pub within : l.pairs + l.pair_words ≤ l.words
  pub pairs_fit : l.pair_words ≡ 36864
  pub stack_fits : most_symbols 4096 ≤ 8 * l.stack
  pub fuel_fits : most_moves 4096 ≤ moves_of l.fuel

abbrev pub phase_in : List ℕ → ℕ
phase_in m = slice_index m 258

abbrev pub with_phase : ℕ → List ℕ → List ℕ
with_phase k m = slice_set m 258 k

-- so many words set to 0
abbrev pub cleared : ℕ → ℕ → List ℕ → List ℕ
cleared a n m = replaced a n (replicate n 0) m

-- a row written over the beginning of another
abbrev pub over : List ℕ → List ℕ → List ℕ
over xs ys = xs ++ drop (length xs) ys

-- THE GRAMMAR THAT IS LOADED, by its spelling: the low bytes of so many words
abbrev pub low_byte : ℕ → ℕ
low_byte w = w % 256

abbrev pub spelling_in : List ℕ → List ℕ
spelling_in m = each low_byte (take (slice_index m 0) (region 1 257 m))

abbrev pub with_spelling : List ℕ → List ℕ → List ℕ
with_spelling bs m = replaced 1 257 (over bs (region 1 257 m)) (slice_set m 0 (length bs))

-- A TEXT THAT IS TOLD: how far it is, its signs, and the stack's bytes
abbrev pub height_in : List ℕ → ℕ
height_in m = slice_index m 259

abbrev pub taken_in : List ℕ → ℕ
taken_in m = slice_index m 260

abbrev pub text_in : List ℕ → List ℕ
text_in m = each low_byte (take (slice_index m 261) (region 262 4096 m))

abbrev pub with_text : List ℕ → List ℕ → List ℕ
with_text ts m = replaced 262 4096 (over ts (region 262 4096 m)) (slice_set (slice_set (slice_set (slice_set m 258 1) 259 0) 260 0) 261 (length ts))

abbrev pub stack_in : Layout → List ℕ → List ℕ
stack_in l m = region (l.work + l.fuel) l.stack m

-- the configuration is taken up again from its stack
abbrev pub config_in : Layout → Grammar → List ℕ → Config
config_in l g m = config (unpacked (stack_in l m)) (height_in m) (taken_in m) (items_of g (stacked (height_in m) (unpacked (stack_in l m))))

abbrev pub with_config : Layout → ℕ → Config → List ℕ → List ℕ
with_config l phase c m =
    slice_set (slice_set (slice_set (replaced (l.work + l.fuel) l.stack (packed c.cells) m) 258 phase) 259 c.height) 260 c.taken

unfoldable pub loaded : List ℕ → Loaded
loaded m = pick (grammar_ok (spelling_in m)) (grammar_of (spelling_in m) ∷ []) []
