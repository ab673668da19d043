-- What one step keeps of the memory: its length, and that its numbers are small.
use Rattle.std.proofs.Common.{◌≡◌, ℕ, ◌+◌, ◌<◌, ◌≤◌, true, ltb, List, length, replicate, ◌∙◌, arith, length-set}
use Rattle.grammar.specs.Grammar.{every}
use Rattle.reader.specs.Memory.{with_phase, cleared, with_spelling}
use Rattle.reader.proofs.MemoryLaws.{small, small_set, small_region, small_replaced, small_zeros, small_over, small_bytes, length_cleared, length_spelled}

abbrev pub Keeps : List ℕ → List ℕ → Type 0
Keeps m m₁ = (length m₁ ≡ length m) × (every small m ≡ true → every small m₁ ≡ true)

pub keeps_phase : (k : ℕ) (m m₁ : List ℕ) → k < 18446744073709551616 → Keeps m m₁ → Keeps m (with_phase k m₁)
keeps_phase k m m₁ h p = (length-set m₁ 258 k ∙ p.0, λ s. small_set m₁ 258 k h (p.1 s))

pub keeps_cleared : (a n : ℕ) (m : List ℕ) → a + n ≤ length m → Keeps m (cleared a n m)
keeps_cleared a n m h = (length_cleared a n m h, λ s. small_replaced a n (replicate n 0) m (small_zeros n) s)

pub keeps_spelled : (bs m m₁ : List ℕ) → 258 < length m → length bs ≤ 257 → every (λ b. ltb b 256) bs ≡ true → Keeps m m₁ → Keeps m (with_spelling bs m₁)
keeps_spelled bs m m₁ h k b p =
    let l : 258 < length m₁ = omega (arith, p.0) in (
      length_spelled bs m₁ l k ∙ p.0,
      λ s. small_replaced 1 257 _ _ (small_over bs _ (small_bytes bs b) (small_region 1 257 m₁ (p.1 s))) (small_set m₁ 0 (length bs) (omega arith) (p.1 s)),
    )
