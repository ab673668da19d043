-- The loop over the later rules of a spelling, and its first rule: the definitions at the bytes that the code has split off.
use Rattle.std.proofs.Common.{◌≡◌, ℕ, zero, suc, ◌-◌, ◌<◌, ◌≤◌, true, false, ◌&&◌, eqb, List, [], ◌∷◌, length, get_or, take, drop, sym, refl, ◌∙◌, arith}
use Rattle.std.proofs.lemmas.Bool.{ne_eqb}
use Rattle.grammar.specs.Grammar.{every, none_of}
use Rattle.grammar.specs.Spelling.{byte_ok, head_ok, first_ok, rules_ok, grammar_ok}

pub rules_short : (left room : ℕ) (xs : List ℕ) → 0 < left → length xs < 2 → rules_ok left room xs ≡ false
unfolding rules_ok
rules_short zero room xs p h = absurd (omega arith)
rules_short (suc n) room [] p h = refl
rules_short (suc n) room (x ∷ []) p h = refl
rules_short (suc n) room (x ∷ y ∷ xs) p h = absurd (omega arith)

rules_step : (left room : ℕ) (xs row : List ℕ) → 0 < left → 2 ≤ length xs → row ≡ drop 2 xs →
    rules_ok left room xs
    ≡ (head_ok (get_or xs 0 0) (get_or xs 1 0) (length row) room
    && (every byte_ok (take (get_or xs 1 0) row) && rules_ok (left - 1) (room - get_or xs 1 0) (drop (get_or xs 1 0) row)))
unfolding rules_ok
rules_step zero room xs row p h e = absurd (omega arith)
rules_step (suc n) room [] row p h e = absurd (omega arith)
rules_step (suc n) room (x ∷ []) row p h e = absurd (omega arith)
rules_step (suc n) room (l ∷ c ∷ xs) row p h e = let k : suc n - 1 ≡ n = omega arith in rw (e, k)

module _ (left room : ℕ) (xs row : List ℕ) (more : 0 < left) (long : 2 ≤ length xs) (cut : row ≡ drop 2 xs) where
  pub stop_head : head_ok (get_or xs 0 0) (get_or xs 1 0) (length row) room ≡ false → rules_ok left room xs ≡ false
  stop_head t = rules_step left room xs row more long cut ∙ rw t

  pub stop_right : head_ok (get_or xs 0 0) (get_or xs 1 0) (length row) room ≡ true → every byte_ok (take (get_or xs 1 0) row) ≡ false →
      rules_ok left room xs ≡ false
  stop_right t u = rules_step left room xs row more long cut ∙ rw (t, u)

  pub rules_more : head_ok (get_or xs 0 0) (get_or xs 1 0) (length row) room ≡ true → every byte_ok (take (get_or xs 1 0) row) ≡ true →
      rules_ok left room xs ≡ rules_ok (left - 1) (room - get_or xs 1 0) (drop (get_or xs 1 0) row)
  rules_more t u = rules_step left room xs row more long cut ∙ rw (t, u)

pub rules_all : (left room : ℕ) (xs : List ℕ) → left ≤ 0 → rules_ok left room xs ≡ eqb (length xs) 0
unfolding rules_ok none_of
rules_all zero room [] h = refl
rules_all zero room (x ∷ xs) h = sym (ne_eqb (suc (length xs)) 0 (λ e. omega arith))
rules_all (suc n) room xs h = absurd (omega arith)

pub grammar_short : (xs : List ℕ) → length xs < 4 → false ≡ grammar_ok xs
unfolding grammar_ok
grammar_short [] h = refl
grammar_short (a ∷ []) h = refl
grammar_short (a ∷ b ∷ []) h = refl
grammar_short (a ∷ b ∷ c ∷ []) h = refl
grammar_short (a ∷ b ∷ c ∷ d ∷ xs) h = absurd (omega arith)

pub grammar_at : (xs : List ℕ) → 4 ≤ length xs →
    grammar_ok xs ≡ (first_ok (get_or xs 0 0) (get_or xs 1 0) (get_or xs 2 0) (get_or xs 3 0) && rules_ok (get_or xs 0 0 - 1) 127 (drop 4 xs))
unfolding grammar_ok
grammar_at [] h = absurd (omega arith)
grammar_at (a ∷ []) h = absurd (omega arith)
grammar_at (a ∷ b ∷ []) h = absurd (omega arith)
grammar_at (a ∷ b ∷ c ∷ []) h = absurd (omega arith)
grammar_at (a ∷ b ∷ c ∷ d ∷ xs) h = refl
