-- The numbers of a stretch that pass a test, as a row: it rises, stays below a bound, and has just these.
use Rattle.std.proofs.Common.{◌≡◌, ℕ, zero, suc, ◌+◌, ◌<◌, ◌≤◌, Bool, true, false, eqb, leb, List, [], ◌∷◌, ◌++◌, length, sym, refl, ap, ◌∙◌, ap₂, arith}
use Rattle.std.proofs.lemmas.Bool.{eqb-true, eqb-false, lt-ltb, le-leb, ne_eqb}
use Rattle.grammar.specs.Grammar.{pick, any, every}
use Rattle.grammar.specs.Texts.{rising, has}
use Rattle.parser.specs.Rows.{passing}

rising_cons : (f : ℕ → Bool) (k i j : ℕ) → i < j → rising (i ∷ passing f k j) ≡ true
unfolding rising passing
rising_cons f zero i j h = refl
rising_cons f (suc k) i j h = go (f j) (rising_cons f k i (suc j) (omega arith)) (rising_cons f k j (suc j) (omega arith))
  where
    go : (b : Bool) → rising (i ∷ passing f k (suc j)) ≡ true → rising (j ∷ passing f k (suc j)) ≡ true →
        rising (i ∷ pick b (j ∷ passing f k (suc j)) (passing f k (suc j))) ≡ true
    go true a b = rw (lt-ltb i j h) b
    go false a b = a

pub rising_passing : (f : ℕ → Bool) (k i : ℕ) → rising (passing f k i) ≡ true
unfolding rising passing
rising_passing f zero i = refl
rising_passing f (suc k) i = go (f i) (rising_passing f k (suc i))
  where
    go : (b : Bool) → rising (passing f k (suc i)) ≡ true → rising (pick b (i ∷ passing f k (suc i)) (passing f k (suc i))) ≡ true
    go true a = rising_cons f k i (suc i) (omega arith)
    go false a = a

pub passing_few : (f : ℕ → Bool) (k i : ℕ) → length (passing f k i) ≤ k
unfolding passing
passing_few f zero i = omega arith
passing_few f (suc k) i = go (f i) (passing_few f k (suc i))
  where
    go : (b : Bool) → length (passing f k (suc i)) ≤ k → length (pick b (i ∷ passing f k (suc i)) (passing f k (suc i))) ≤ suc k
    go true a = omega arith
    go false a = omega arith

-- one more at the end
pub passing_push : (f : ℕ → Bool) (k i : ℕ) → passing f (suc k) i ≡ passing f k i ++ pick (f (i + k)) ((i + k) ∷ []) []
unfolding passing
passing_push f zero i = let e : i + 0 ≡ i = omega arith in rw e (go (f i))
  where
    go : (b : Bool) → pick b (i ∷ []) [] ≡ [] ++ pick b (i ∷ []) []
    go true = refl
    go false = refl
passing_push f (suc k) i = go (f i) (passing_push f k (suc i))
  where
    last : ℕ → List ℕ
    last n = pick (f n) (n ∷ []) []

    e : suc i + k ≡ i + suc k
    e = omega arith

    go : (b : Bool) → passing f (suc k) (suc i) ≡ passing f k (suc i) ++ last (suc i + k) →
        pick b (i ∷ passing f (suc k) (suc i)) (passing f (suc k) (suc i)) ≡ pick b (i ∷ passing f k (suc i)) (passing f k (suc i)) ++ last (i + suc k)
    go true ih = ap (λ l. i ∷ l) (ih ∙ ap (λ n. passing f k (suc i) ++ last n) e)
    go false ih = ih ∙ ap (λ n. passing f k (suc i) ++ last n) e

pub passing_below : (f : ℕ → Bool) (m k i : ℕ) → i + k ≤ suc m → every (λ x. leb x m) (passing f k i) ≡ true
unfolding every passing
passing_below f m zero i h = refl
passing_below f m (suc k) i h = go (f i) (passing_below f m k (suc i) (omega arith))
  where
    go : (b : Bool) → every (λ x. leb x m) (passing f k (suc i)) ≡ true → every (λ x. leb x m) (pick b (i ∷ passing f k (suc i)) (passing f k (suc i))) ≡ true
    go true a = let l : i ≤ m = omega arith in rw (le-leb i m l) a
    go false a = a

has_none : (f : ℕ → Bool) (k i t : ℕ) → t < i → has (passing f k i) t ≡ false
unfolding any passing
has_none f zero i t h = refl
has_none f (suc k) i t h = go (f i) (has_none f k (suc i) t (omega arith))
  where
    ne : t ≡ i → ⊥
    ne e = omega arith

    go : (b : Bool) → has (passing f k (suc i)) t ≡ false → has (pick b (i ∷ passing f k (suc i)) (passing f k (suc i))) t ≡ false
    go true a = rw (ne_eqb t i ne) a
    go false a = a

pub has_passing : (f : ℕ → Bool) (k i t : ℕ) → i ≤ t → t < i + k → has (passing f k i) t ≡ f t
unfolding any passing
has_passing f zero i t h l = absurd (omega arith)
has_passing f (suc k) i t h l = go (eqb t i) refl (λ j. has_passing f k (suc i) t j (omega arith)) (f i) refl
  where
    rest : List ℕ
    rest = passing f k (suc i)

    go : (b : Bool) → eqb t i ≡ b → (suc i ≤ t → has rest t ≡ f t) → (c : Bool) → f i ≡ c → has (pick c (i ∷ rest) rest) t ≡ f t
    go true e ih true d = let z = eqb-true t i e in rw e (sym d ∙ ap f (sym z))
    go true e ih false d = let z = eqb-true t i e in has_none f k (suc i) t (omega arith) ∙ sym d ∙ ap f (sym z)
    go false e ih true d = let n = eqb-false t i e in rw e (ih (omega arith))
    go false e ih false d = let n = eqb-false t i e in ih (omega arith)

pub passing_same : (f h : ℕ → Bool) → ((t : ℕ) → f t ≡ h t) → (k i : ℕ) → passing f k i ≡ passing h k i
unfolding passing
passing_same f h e zero i = refl
passing_same f h e (suc k) i = ap₂ (λ (b : Bool) (x : List ℕ). pick b (i ∷ x) x) (e i) (passing_same f h e k (suc i))
