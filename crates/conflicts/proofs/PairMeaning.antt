-- What the bits of the word of two places say: which lookaheads the first can have beside the second, and which both can have at once.
use Rattle.std.proofs.Common.{◌≡◌, ℕ, ◌+◌, ◌-◌, ◌^◌, ◌<◌, ◌≤◌, true, List, get_or, sym, refl, ap, ◌∙◌, subst, subst₂, ⊎_elim, arith}
use Rattle.std.proofs.lemmas.Bool.{cases_lt}
use Rattle.words.specs.Bits.{has_bit}
use Rattle.words.specs.Rows.{or_at}
use Rattle.words.proofs.BitLaws.{nonzero_has}
use Rattle.words.proofs.RowLaws.{or_at_cases}
use Rattle.grammar.specs.Grammar.{Sym, Grammar}
use Rattle.grammar.specs.Places.{places, rest, owner, At}
use Rattle.conflicts.specs.Conflicts.{Both}
use Rattle.conflicts.specs.Pairs.{pair, own_part, both_part, word_of}
use Rattle.conflicts.proofs.PairWords.{pair_once, own_below, both_has, word_own, word_both}

-- the items of two places share a stack
abbrev pub Shared : (g : Grammar) (p t q u : ℕ) → Type 0
Shared g p t q u = Both g (owner g p) (rest g p) t (owner g q) (rest g q) u

abbrev pub Together : (g : Grammar) (p q : ℕ) → Type 0
Together g p q = (t u : ℕ) × Shared g p t q u

pub shared_at : {g : Grammar} {p r : ℕ} {β : List Sym} {t q s : ℕ} {α : List Sym} {u : ℕ} → At g p r β → At g q s α → Both g r β t s α u → Shared g p t q u
shared_at {g} {r = r} {β} {t} {q} {u = u} a b c =
    subst₂ (λ k γ. Both g k γ t (owner g q) (rest g q) u) (sym a.owned) (sym a.rests)
    (subst₂ (λ k γ. Both g r β t k γ u) (sym b.owned) (sym b.rests) c)

pub at_itself : {g : Grammar} (p : ℕ) → p < places g → At g p (owner g p) (rest g p)
at_itself p h = record { rests = refl; owned = refl; within = h }

-- what bit b of the word of p and q says
pub data Means (g : Grammar) (p q b : ℕ) : Type 0 where
  first_has : (u : ℕ) → b < 25 → Shared g p b q u → Means g p q b
  both_have : (t : ℕ) → b ≡ 25 + t → Shared g p t q t → Means g p q b

abbrev pub WordMeans : (g : Grammar) (p q w : ℕ) → Type 0
WordMeans g p q w = (b : ℕ) → has_bit b w ≡ true → Means g p q b

module _ (g : Grammar) (p q w : ℕ) (m : WordMeans g p q w) where
  pub own_means : (t : ℕ) → has_bit t (own_part w) ≡ true → (u : ℕ) × Shared g p t q u
  own_means t h = let k = own_below t w h in go k.0 (m t k.1)
    where
      go : t < 25 → Means g p q t → (u : ℕ) × Shared g p t q u
      go l (first_has u l₁ b) = (u, b)
      go l (both_have s e b) = absurd (omega arith)

  pub both_means : (t : ℕ) → has_bit t (both_part w) ≡ true → Shared g p t q t
  both_means t h = go (m (25 + t) (sym (both_has t w) ∙ h))
    where
      go : Means g p q (25 + t) → Shared g p t q t
      go (first_has u l b) = absurd (omega arith)
      go (both_have s e b) = let z : s ≡ t = omega arith in subst (λ k. Shared g p k q k) z b

  -- a word that is not 0 says that the two share a stack
  pub some_means : (w ≡ 0 → ⊥) → Together g p q
  some_means n = let k = nonzero_has w n in go (m k.0 k.1)
    where
      go : {b : ℕ} → Means g p q b → Together g p q
      go {b} (first_has u l c) = (b, u, c)
      go (both_have t e c) = (t, t, c)

pub word_means : (g : Grammar) (p q own both : ℕ) → own < 2 ^ 25 → ((t : ℕ) → has_bit t own ≡ true → (u : ℕ) × Shared g p t q u) →
    ((t : ℕ) → has_bit t both ≡ true → Shared g p t q t) → WordMeans g p q (word_of own both)
word_means g p q own both fits mo mb b h =
    ⊎_elim (λ l. let k = mo b (sym (word_own own both fits b l) ∙ h) in first_has k.0 l k.1)
    (λ l. let e : b ≡ 25 + (b - 25) = omega arith in
    both_have (b - 25) e (mb (b - 25) (sym (word_both own both fits (b - 25)) ∙ ap (λ c. has_bit c (word_of own both)) (sym e) ∙ h)))
    (cases_lt b 25)

-- every word says what is so
abbrev pub SoundWords : Grammar → List ℕ → Type 0
SoundWords g w = (p q : ℕ) → p < places g → q < places g → WordMeans g p q (get_or w (pair p q) 0)

pub sound_or_at : (g : Grammar) → places g ≤ 192 → (w : List ℕ) (i j m : ℕ) → i < places g → j < places g → WordMeans g i j m → SoundWords g w →
    SoundWords g (or_at w (pair i j) m)
sound_or_at g few w i j m hi hj mean s p q hp hq b h =
    ⊎_elim (s p q hp hq b)
    (λ k. let e = pair_once p q i j (omega arith) (omega arith) k.0 in
    subst₂ (λ x y. Means g x y b) (sym e.0) (sym e.1) (mean b k.2))
    (or_at_cases w (pair i j) m (pair p q) b h)
