-- How a table of item sets is made: the kernels in the order in which they are found, and a row of 56 entries for each. Assumes nothing: these are definitions.
use Rattle.std.specs.Prelude.{ℕ, suc, ◌+◌, ◌^◌, Bool, true, false, ◌||◌, List, [], ◌∷◌, ◌++◌, length, nat_eq, nat_le, nat_lt, slice_index_or}
use Rattle.std.specs.Str.{bytes_eq}
use Rattle.words.specs.Iter.{iter, counted}
use Rattle.words.specs.Rows.{or_at}
use Rattle.grammar.specs.Grammar.{pick, every, Sym, Grammar}
use Rattle.grammar.specs.Spelling.{sym_spelled}
use Rattle.items.specs.Sets.{no_items, closure, advanced_set, set_of, reduce_at}

-- KERNELS: a set is the closure of its kernel; over a symbol it is what stood before that symbol, one place on
abbrev pub start_kernel : List ℕ
start_kernel = or_at no_items 0 (2 ^ 24)

unfoldable pub kernel_of : Grammar → List Sym → List ℕ
kernel_of g [] = start_kernel
kernel_of g (x ∷ γ) = advanced_set g (sym_spelled x) (set_of g γ)

-- no items: this counts as no set
abbrev pub is_empty : List ℕ → Bool
is_empty k = every (λ w. nat_eq w 0) k

-- the number of a kernel among others; if it is not among them, how many these are
unfoldable pub index_of : List ℕ → List (List ℕ) → ℕ
index_of k [] = 0
index_of k (x ∷ ks) = pick (bytes_eq k x) 0 (suc (index_of k ks))

-- WHAT IS MADE SO FAR: the kernels found, for how many of them there are rows, the entries of these, and whether there were more than there is room for
pub record Making : Type 0 where
  pub kernels : List (List ℕ)
  pub rows : ℕ
  pub table : List ℕ
  pub too_many : Bool

abbrev pub making : List (List ℕ) → ℕ → List ℕ → Bool → Making
making ks n T b = record { kernels = ks; rows = n; table = T; too_many = b }

-- a kernel that has items and is not among those found comes last, if there is room
unfoldable pub with_kernel : ℕ → List ℕ → Making → Making
with_kernel limit k m =
    pick (is_empty k || nat_lt (index_of k m.kernels) (length m.kernels)) m
    (pick (nat_lt (length m.kernels) limit) (making (m.kernels ++ k ∷ []) m.rows m.table m.too_many)
    (making m.kernels m.rows m.table true))

-- the entry, by the rules that are complete, and the kernel over the column's symbol and its number
unfoldable pub entry_of : List ℕ → List ℕ → ℕ → ℕ
entry_of (r ∷ rs) k n = suc r
entry_of [] k n = pick (is_empty k) 0 (65 + n)

-- the byte of a column's symbol; the end has one that is no symbol's
abbrev pub column_code : ℕ → ℕ
column_code c = pick (nat_le c 24) c (c + 8)

abbrev pub with_entry : ℕ → Making → Making
with_entry e m = making m.kernels m.rows (m.table ++ e ∷ []) m.too_many

-- one column of the row for the item set s, over whose symbol the kernel is k
abbrev pub make_entry : Grammar → ℕ → List ℕ → ℕ → List ℕ → Making → Making
make_entry g limit s c k m = with_entry (entry_of (reduce_at g s c) k (index_of k m.kernels)) (with_kernel limit k m)

abbrev pub make_column : Grammar → ℕ → List ℕ → ℕ → Making → Making
make_column g limit s c m = make_entry g limit s c (advanced_set g (column_code c) s) m

abbrev pub next_row : Making → Making
next_row m = making m.kernels (suc m.rows) m.table m.too_many

-- one row, for the next kernel
unfoldable pub make_row : Grammar → ℕ → Making → Making
make_row g limit m = next_row (counted 56 (make_column g limit (closure g (slice_index_or m.kernels m.rows no_items))) m)

-- until there is a row for each kernel, or there are too many
unfoldable pub make_step : Grammar → ℕ → Making → Making
make_step g limit m = pick (m.too_many || nat_le (length m.kernels) m.rows) m (make_row g limit m)

-- THE TABLE, if there are no more sets than the limit
unfoldable pub made : Grammar → ℕ → Making
made g limit = iter limit (make_step g limit) (making (start_kernel ∷ []) 0 [] false)
