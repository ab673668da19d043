-- The computed FIRST sets are exact: a sign is among those of a row if and only if the row opens with it.
--     opening_exact      the signs that a row opens with are just those of its mask
--     opening_below, firsts_length, firsts_below      32 masks of the 24 signs
use Rattle.std.proofs.Common.{◌≡◌, ℕ, ◌^◌, ◌<◌, Bool, true, false, ltb, List, [], ◌∷◌, length, get_or, replicate, sym, refl, ap, ◌∙◌, subst, ⊎_elim, arith, lit<}
use Rattle.std.proofs.lemmas.Nat.{or_lt}
use Rattle.std.proofs.lemmas.Bool.{and_parts, ltb-true, or_cases, or_left, or_right}
use Rattle.words.specs.Bits.{has_bit}
use Rattle.words.specs.Rows.{size, Words}
use Rattle.words.proofs.BitLaws.{has_or, has_nonzero, bits_below, bit_of_below}
use Rattle.words.proofs.Fixpoint.{iter_keeps, counted_keeps, iter_fixpoint, up_counted, counted_rest}
use Rattle.words.proofs.RowLaws.{up_or_at, or_at_cases, or_at_rest, zero_at, words_zero, size_below, words_or_at}
use Rattle.grammar.specs.Grammar.{pick, every, Sym, sign, name, Grammar, a_grammar, rule, sym_fits}
use Rattle.grammar.specs.First.{Opens, open_sign, open_name, open_past}
use Rattle.grammar.specs.Rows.{opening}
use Rattle.grammar.specs.Analysis.{nullable, first_rule_lem, first_round, firsts}
use Rattle.grammar.specs.Computed.{FirstComputed}
use Rattle.grammar.proofs.Sizes.{sizes, right_fits}
use Rattle.grammar.proofs.Rounds.{Marks, of_bit, bit_itself}
use Rattle.grammar.proofs.Nullable.{NullableName, nullable_sound, nullable_complete}

-- a right side of the name opens with the sign
abbrev OpensName : Grammar → ℕ → ℕ → Type 0
OpensName g n u = (q : ℕ) × (q < length g) × ((rule g q).left ≡ n) × Opens g (rule g q).right u

abbrev Sound : Grammar → List ℕ → Type 0
Sound g F = (n u : ℕ) → has_bit u (get_or F n 0) ≡ true → OpensName g n u

no_bit : {A : Type 0} (u : ℕ) → has_bit u 0 ≡ true → A
no_bit u h = absurd (has_nonzero 0 u h refl)

opening_sound : (g : Grammar) (N : ℕ) (F : List ℕ) → Marks (NullableName g) N → Sound g F →
    (β : List Sym) (u : ℕ) → has_bit u (opening N F β) ≡ true → Opens g β u
unfolding opening
opening_sound g N F s f [] u h = no_bit u h
opening_sound g N F s f (sign t ∷ β) u h = subst (λ k. Opens g (sign t ∷ β) k) (sym (of_bit u t h)) open_sign
opening_sound g N F s f (name n ∷ β) u h =
    ⊎_elim (λ p. let k = f n u p in open_name k.0 k.1 k.2 k.3) (λ p. past (opening_sound g N F s f β u) (has_bit n N) refl p)
    (or_cases (has_bit u (get_or F n 0)) (has_bit u (pick (has_bit n N) (opening N F β) 0)) (sym (has_or u (get_or F n 0) (pick (has_bit n N) (opening N F β) 0)) ∙ h))
  where
    past : (has_bit u (opening N F β) ≡ true → Opens g β u) → (b : Bool) → has_bit n N ≡ b → has_bit u (pick b (opening N F β) 0) ≡ true → Opens g (name n ∷ β) u
    past behind true e p = let k = s n e in open_past k.0 k.1 k.2 k.3 (behind p)
    past behind false e p = no_bit u p

opening_fits : (N : ℕ) (F : List ℕ) → ((i : ℕ) → get_or F i 0 < 2 ^ 64) → (β : List Sym) → opening N F β < 2 ^ 64
unfolding opening
opening_fits N F w [] = lit< tt
opening_fits N F w (sign t ∷ β) = bit_of_below t
opening_fits N F w (name n ∷ β) =
    or_lt 64 (get_or F n 0) (pick (has_bit n N) (opening N F β) 0) (w n) (part (has_bit n N) (opening N F β) (opening_fits N F w β))
  where
    part : (b : Bool) (x : ℕ) → x < 2 ^ 64 → pick b x 0 < 2 ^ 64
    part true x h = h
    part false x h = lit< tt

-- ---- the rounds

round_words : (g : Grammar) (F : List ℕ) → Words 32 F → Words 32 (first_round g (nullable g) F)
round_words g F w =
    counted_keeps (Words 32) (first_rule_lem g (nullable g)) (length g)
    (λ k H _ v. words_or_at 32 H (rule g k).left (opening (nullable g) H (rule g k).right) (opening_fits (nullable g) H v.1 (rule g k).right) v) F w

firsts_words : (g : Grammar) → Words 32 (firsts g)
unfolding firsts
firsts_words g = iter_keeps (Words 32) (first_round g (nullable g)) (round_words g) 2048 (replicate 32 0) (words_zero 32)

firsts_sound : (g : Grammar) → Sound g (firsts g)
unfolding firsts
firsts_sound g = iter_keeps (Sound g) (first_round g (nullable g)) (λ F s. counted_keeps (Sound g) (first_rule_lem g (nullable g)) (length g) step F s) 2048 (replicate 32 0)
    (λ n u h. no_bit u (subst (λ z. has_bit u z ≡ true) (zero_at 32 n) h))
  where
    step : (k : ℕ) (F : List ℕ) → k < length g → Sound g F → Sound g (first_rule_lem g (nullable g) k F)
    step k F lt s n u h =
        ⊎_elim (s n u) (λ p. (k, lt, sym p.0, opening_sound g (nullable g) F (nullable_sound g) s (rule g k).right u p.2))
        (or_at_cases F (rule g k).left (opening (nullable g) F (rule g k).right) n u h)

module _ (g : Grammar) (a : a_grammar g ≡ true) where
  firsts_rest : first_round g (nullable g) (firsts g) ≡ firsts g
  unfolding firsts
  firsts_rest =
      iter_fixpoint (first_round g (nullable g)) size 2048 (Words 32) (round_words g) (λ F w. size_below 32 F w)
      (λ F _. up_counted size (first_rule_lem g (nullable g)) (λ k H. up_or_at H (rule g k).left _) (length g) F) 2048 (replicate 32 0) (words_zero 32) (omega arith)

  firsts_closed : (q u : ℕ) → q < length g → has_bit u (opening (nullable g) (firsts g) (rule g q).right) ≡ true → has_bit u (get_or (firsts g) (rule g q).left 0) ≡ true
  firsts_closed q u lt h =
      let same = counted_rest size (first_rule_lem g (nullable g)) (λ k H. up_or_at H (rule g k).left _) (length g) (firsts g) firsts_rest q lt in
      or_at_rest (firsts g) (rule g q).left (opening (nullable g) (firsts g) (rule g q).right) u same
      (omega (arith, (sizes g a).left_below q lt, (firsts_words g).0)) h

  opening_complete : {β : List Sym} {u : ℕ} → every sym_fits β ≡ true → Opens g β u → has_bit u (opening (nullable g) (firsts g) β) ≡ true
  unfolding opening every sym_fits
  opening_complete h (open_sign {u = u} {β = β}) = bit_itself u (let k = ltb-true u 24 (and_parts (ltb u 24) (every sym_fits β) h).0 in omega arith)
  opening_complete h (open_name {u = u} {n = n} {β = β} q lt l O) =
      let p = firsts_closed q u lt (opening_complete (right_fits g q lt (sizes g a).fitting) O) in
      has_or u (get_or (firsts g) n 0) _ ∙ or_left _ _ (ap (λ m. has_bit u (get_or (firsts g) m 0)) (sym l) ∙ p)
  opening_complete h (open_past {u = u} {n = n} {β = β} q lt l V O) =
      let p = opening_complete (and_parts (sym_fits (name n)) (every sym_fits β) h).1 O in
      let e : has_bit n (nullable g) ≡ true = ap (λ m. has_bit m (nullable g)) (sym l) ∙ nullable_complete g a q lt V in
      has_or u (get_or (firsts g) n 0) _
      ∙ or_right _ _ (ap (λ b. has_bit u (pick b (opening (nullable g) (firsts g) β) 0)) e ∙ p)

  -- what is opened with is a sign of the grammar
  opens_below : {β : List Sym} {u : ℕ} → every sym_fits β ≡ true → Opens g β u → u < 24
  unfolding every sym_fits
  opens_below h (open_sign {u = u} {β = β}) = ltb-true u 24 (and_parts (ltb u 24) (every sym_fits β) h).0
  opens_below h (open_name q lt l O) = opens_below (right_fits g q lt (sizes g a).fitting) O
  opens_below h (open_past {n = n} {β = β} q lt l V O) = opens_below (and_parts (sym_fits (name n)) (every sym_fits β) h).1 O

pub opening_exact : (g : Grammar) → a_grammar g ≡ true → (β : List Sym) → every sym_fits β ≡ true → (u : ℕ) →
    (has_bit u (opening (nullable g) (firsts g) β) ≡ true → Opens g β u) × (Opens g β u → has_bit u (opening (nullable g) (firsts g) β) ≡ true)
opening_exact g a β h u = (opening_sound g (nullable g) (firsts g) (nullable_sound g) (firsts_sound g) β u, opening_complete g a h)

pub opening_below : (g : Grammar) → a_grammar g ≡ true → (β : List Sym) → every sym_fits β ≡ true → opening (nullable g) (firsts g) β < 2 ^ 24
opening_below g a β h =
    bits_below 64 24 (opening (nullable g) (firsts g) β) (opening_fits (nullable g) (firsts g) (firsts_words g).1 β)
    (λ u p. opens_below g a h ((opening_exact g a β h u).0 p))

pub firsts_length : (g : Grammar) → length (firsts g) ≡ 32
firsts_length g = (firsts_words g).0

pub firsts_below : (g : Grammar) → a_grammar g ≡ true → (i : ℕ) → get_or (firsts g) i 0 < 2 ^ 24
firsts_below g a i =
    bits_below 64 24 (get_or (firsts g) i 0) ((firsts_words g).1 i)
    (λ u p. let k = firsts_sound g i u p in opens_below g a (right_fits g k.0 k.1 (sizes g a).fitting) k.3)

pub first_computed_lem : FirstComputed
unfolding FirstComputed
first_computed_lem g β u a h = opening_exact g a β h u
