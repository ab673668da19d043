-- A table is made row by row: until there is a row for each kernel, or it is given up.
use Rattle.std.proofs.Common.{◌≡◌, ℕ, zero, suc, ◌+◌, ◌*◌, ◌<◌, ◌≤◌, Bool, true, false, ◌||◌, ltb, leb, ◌⊎◌, List, [], ◌∷◌, ◌++◌, length, get_or, refl, ap, ◌∙◌, subst, inl, inr, arith}
use Rattle.std.proofs.lemmas.Bool.{both_ways, or_cases, or_parts, leb-true, leb-false}
use Rattle.words.specs.Iter.{iter, counted}
use Rattle.grammar.specs.Grammar.{pick, Grammar, a_grammar, AllUseful}
use Rattle.items.specs.Sets.{no_items, closure}
use Rattle.tables.specs.Making.{start_kernel, is_empty, index_of, Making, making, with_kernel, make_column, next_row, make_row, make_step, made}
use Rattle.tables.proofs.MakingRows.{ways_start, Sound, InRow, GivenUp, column_more}

-- what is given up stays so
stays_up : (limit : ℕ) (k : List ℕ) (m : Making) → m.too_many ≡ true → (with_kernel limit k m).too_many ≡ true
unfolding with_kernel
stays_up limit k m e = go (is_empty k || ltb (index_of k m.kernels) (length m.kernels)) (ltb (length m.kernels) limit)
  where
    go : (a b : Bool) →
        (pick a m (pick b (making (m.kernels ++ k ∷ []) m.rows m.table m.too_many) (making m.kernels m.rows m.table true))).too_many ≡ true
    go true b = e
    go false true = e
    go false false = refl

module _ (g : Grammar) (fits : a_grammar g ≡ true) (useful : AllUseful g) (limit : ℕ) where
  abbrev Up : Making → Type 0
  Up m = GivenUp g fits useful limit m

  columns_more : (n : ℕ) (k : List ℕ) (m : Making) → InRow g fits useful limit n k 0 m → (j : ℕ) → j ≤ 56 →
      InRow g fits useful limit n k j (counted j (make_column g limit (closure g k)) m) ⊎ Up (counted j (make_column g limit (closure g k)) m)
  unfolding counted
  columns_more n k m r zero h = inl r
  columns_more n k m r (suc j) h = go (columns_more n k m r j (omega arith))
    where
      m₁ : Making
      m₁ = counted j (make_column g limit (closure g k)) m

      go : InRow g fits useful limit n k j m₁ ⊎ Up m₁ →
          InRow g fits useful limit n k (suc j) (make_column g limit (closure g k) j m₁) ⊎ Up (make_column g limit (closure g k) j m₁)
      go (inl q) = column_more g fits useful limit n k j m₁ q (omega arith)
      go (inr u) = inr (stays_up limit _ m₁ u.0, u.1)

  -- between two rows
  pub record Between (m : Making) : Type 0 where
    pub go_on : m.too_many ≡ false
    pub sound : Sound g fits useful limit m
    pub within : m.rows ≤ length m.kernels
    pub long : length m.table ≡ m.rows * 56

  row_more : (m : Making) → Between m → m.rows < length m.kernels → (Between (make_row g limit m) × ((make_row g limit m).rows ≡ suc m.rows)) ⊎ Up (make_row g limit m)
  unfolding make_row
  row_more m b h = go (columns_more m.rows k m in_row 56 (omega arith))
    where
      k : List ℕ
      k = get_or m.kernels m.rows no_items

      in_row : InRow g fits useful limit m.rows k 0 m
      in_row = record { go_on = b.go_on; sound = b.sound; row = refl; within = h; kernel = refl; long = omega (arith, b.long) }

      m₁ : Making
      m₁ = counted 56 (make_column g limit (closure g k)) m

      go : InRow g fits useful limit m.rows k 56 m₁ ⊎ Up m₁ → (Between (next_row m₁) × ((next_row m₁).rows ≡ suc m.rows)) ⊎ Up (next_row m₁)
      go (inl r) =
          let s = r.sound in
          inl (
            record {
              go_on = r.go_on;
              sound = record { ways = s.ways; few = s.few; short = s.short; right = s.right; small = s.small };
              within = omega (arith, r.row, r.within);
              long = omega (arith, r.long, r.row);
            },
            ap suc r.row,
          )
      go (inr u) = inr u

  -- after j steps there are j rows, or all
  abbrev pub Progress : ℕ → Making → Type 0
  Progress j m = (Between m × ((m.rows ≡ length m.kernels) ⊎ (m.rows ≡ j))) ⊎ Up m

  step_more : (j : ℕ) (m : Making) → Progress j m → Progress (suc j) (make_step g limit m)
  unfolding make_step
  step_more j m p = go (m.too_many || leb (length m.kernels) m.rows) refl p
    where
      row : Between m → (m.rows ≡ length m.kernels) ⊎ (m.rows ≡ j) → m.rows < length m.kernels → Progress (suc j) (make_row g limit m)
      row b (inl e) h = absurd (omega arith)
      row b (inr e) h = elim (row_more m b h) [ inl q ↦ inl (q.0, inr (q.1 ∙ ap suc e)) | inr u ↦ inr u ]

      go : (b : Bool) → (m.too_many || leb (length m.kernels) m.rows) ≡ b → Progress j m → Progress (suc j) (pick b m (make_row g limit m))
      go true e (inr u) = inr u
      go false e (inr u) = absurd (both_ways _ (or_parts m.too_many _ e).0 u.0)
      go true e (inl (b, w)) = elim (or_cases m.too_many _ e) [
        | inl z ↦ absurd (both_ways _ b.go_on z)
        | inr z ↦ (let l = leb-true (length m.kernels) m.rows z in inl (b, inl (omega (arith, l, b.within))))
      ]
      go false e (inl (b, w)) = row b w (leb-false (length m.kernels) m.rows (or_parts m.too_many _ e).1)

  steps_more : (n j : ℕ) (m : Making) → Progress j m → Progress (n + j) (iter n (make_step g limit) m)
  unfolding iter
  steps_more zero j m p = let e : j ≡ 0 + j = omega arith in subst (λ i. Progress i m) e p
  steps_more (suc n) j m p =
      let e : n + suc j ≡ suc n + j = omega arith in
      subst (λ i. Progress i (iter n (make_step g limit) (make_step g limit m))) e (steps_more n (suc j) (make_step g limit m) (step_more j m p))

  pub made_so : 0 < limit → (Between (made g limit) × ((made g limit).rows ≡ length (made g limit).kernels)) ⊎ Up (made g limit)
  unfolding made
  made_so h = go (steps_more limit 0 first (inl (at_start, inr refl)))
    where
      first : Making
      first = making (start_kernel ∷ []) 0 [] false

      at_start : Between first
      at_start =
          record {
            go_on = refl;
            sound = record {
              ways = ways_start g fits useful;
              few = omega arith;
              short = omega arith;
              right = λ i c _ t. absurd (omega arith);
              small = λ i t. absurd (omega arith);
            };
            within = omega arith;
            long = refl;
          }

      last : Making
      last = iter limit (make_step g limit) first

      go : Progress (limit + 0) last → (Between last × (last.rows ≡ length last.kernels)) ⊎ Up last
      go (inr u) = inr u
      go (inl (b, inl e)) = inl (b, e)
      go (inl (b, inr e)) = inl (b, omega (arith, e, b.within, b.sound.few))
