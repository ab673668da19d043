-- What begins a text of a grammar, the first wrong place, and what may come next. Assumes nothing: these are definitions.
use Rattle.std.specs.Prelude.{◌≡◌, ℕ, zero, suc, ◌≤◌, Bool, true, false, ◌&&◌, ◌⊎◌, List, [], ◌∷◌, ◌++◌, length, take, ◌==◌, nat_eq, nat_le, nat_lt}
use Rattle.grammar.specs.Grammar.{every, any, Grammar, Makes}

-- a text that begins so
unfoldable pub Begins : Grammar → List ℕ → Type 0
Begins g ts = (ds : List ℕ) × (more : List ℕ) × Makes g ds (ts ++ more)

unfoldable pub NotBegins : Grammar → List ℕ → Type 0
NotBegins g ts = Begins g ts → zero ≡ suc zero

unfoldable pub NotMade : Grammar → List ℕ → Type 0
NotMade g ts = (ds : List ℕ) → Makes g ds ts → zero ≡ suc zero

-- the first sign with which no text goes on, by its place; or the end, if more would have to come
unfoldable pub FirstWrong : Grammar → List ℕ → ℕ → Type 0
FirstWrong g ts p =
    (p ≤ length ts) × Begins g (take p ts) × ((p ≡ length ts) ⊎ (NotBegins g (take (suc p) ts)))

-- which signs may come next, and 24 if the text may end here
unfoldable pub MayCome : Grammar → List ℕ → ℕ → Type 0
MayCome g ts t = ((t == 24) ≡ false → Begins g (ts ++ t ∷ [])) × ((t == 24) ≡ true → (ds : List ℕ) × Makes g ds ts)

unfoldable pub rising : List ℕ → Bool
rising [] = true
rising (k ∷ []) = true
rising (k ∷ j ∷ ks) = nat_lt k j && rising (j ∷ ks)

abbrev pub has : List ℕ → ℕ → Bool
has ks k = any (nat_eq k) ks

unfoldable pub Follows : Grammar → List ℕ → List ℕ → Type 0
Follows g ts ks =
    (rising ks ≡ true) × (every (λ k. nat_le k 24) ks ≡ true)
    × ((t : ℕ) → t ≤ 24 → (has ks t ≡ true → MayCome g ts t) × (has ks t ≡ false → MayCome g ts t → zero ≡ suc zero))
