-- Rounds over the rules on one word of marks: where its test passes, a rule adds its mask.
--     rounds_sound      if every mask that is added is sound, all marks are
--     rounds_start, rounds_closed      the marks of the start stay, and after 64 rounds every rule whose test passes has its mask in
--     marked_sound, marked_closed      the same where a rule marks its own name
use Rattle.std.proofs.Common.{◌≡◌, ℕ, ◌^◌, ◌<◌, Bool, true, false, eqb, ltb, List, length, sym, refl, ap, ◌∙◌, subst, ⊎_elim, arith, lit<}
use lib.Bits.{bit_or}
use lib.Count.{ones, ones-le}
use Rattle.std.proofs.lemmas.Nat.{or_lt}
use Rattle.std.proofs.lemmas.Bool.{and_parts, and_from, eqb-true, lt-ltb, eq-eqb, false≢true, or_cases, or_left, or_right}
use Rattle.words.specs.Bits.{has_bit, bit_of}
use Rattle.words.specs.Iter.{iter, counted, Up}
use Rattle.words.proofs.BitLaws.{has_or, has_zero, has_bit_of, bit_of_below}
use Rattle.words.proofs.Fixpoint.{iter_keeps, counted_keeps, iter_fixpoint, up_counted, counted_rest}
use Rattle.words.proofs.RowLaws.{or_grows}
use Rattle.grammar.specs.Grammar.{pick, Sym, Grammar, rule}
use Rattle.grammar.specs.Analysis.{mark_round_lem}
use Rattle.grammar.proofs.Picks.{up_pick}
use Rattle.grammar.proofs.Sizes.{Sizes}

-- all marks of a word are sound
abbrev pub Marks : (ℕ → Type 0) → ℕ → Type 0
Marks P M = (t : ℕ) → has_bit t M ≡ true → P t

abbrev pub adding : (ℕ → ℕ → Bool) → (ℕ → ℕ) → ℕ → ℕ → ℕ
adding test mask k M = pick (test k M) (bit_or M (mask k)) M

abbrev pub adding_round : ℕ → (ℕ → ℕ → Bool) → (ℕ → ℕ) → ℕ → ℕ
adding_round n test mask M = counted n (adding test mask) M

pub marks_or : (P : ℕ → Type 0) (M m : ℕ) → Marks P M → Marks P m → Marks P (bit_or M m)
marks_or P M m p q t h = ⊎_elim (p t) (q t) (or_cases (has_bit t M) (has_bit t m) (sym (has_or t M m) ∙ h))

-- the bit of a name alone
pub of_bit : (t n : ℕ) → has_bit t (bit_of n) ≡ true → t ≡ n
of_bit t n h = eqb-true t n (and_parts (ltb n 64) (eqb t n) (sym (has_bit_of t n) ∙ h)).1

pub bit_itself : (n : ℕ) → n < 64 → has_bit n (bit_of n) ≡ true
bit_itself n h = has_bit_of n n ∙ and_from (ltb n 64) (eqb n n) (lt-ltb n 64 h) (eq-eqb n n refl)

module _ (n : ℕ) (test : ℕ → ℕ → Bool) (mask : ℕ → ℕ) where
  pub rounds_sound : (P : ℕ → Type 0) → ((k M : ℕ) → k < n → Marks P M → test k M ≡ true → Marks P (mask k)) →
      (r start : ℕ) → Marks P start → Marks P (iter r (adding_round n test mask) start)
  rounds_sound P ok r start p = iter_keeps (Marks P) _ (λ M q. counted_keeps (Marks P) (adding test mask) n (λ k N lt s. go k N lt s _ refl) M q) r start p
    where
      go : (k N : ℕ) → k < n → Marks P N → (b : Bool) → test k N ≡ b → Marks P (pick b (bit_or N (mask k)) N)
      go k N lt s true e = marks_or P N (mask k) s (ok k N lt s e)
      go k N lt s false e = s

  adding_up : (k M : ℕ) → Up ones M (adding test mask k M)
  adding_up k M = up_pick ones (test k M) M (bit_or M (mask k)) (or_grows M (mask k))

  module _ (fits : (k : ℕ) → k < n → mask k < 2 ^ 64) (start : ℕ) (start_fits : start < 2 ^ 64) where
    adding_fits : (k M : ℕ) → k < n → M < 2 ^ 64 → adding test mask k M < 2 ^ 64
    adding_fits k M lt h = go (test k M)
      where
        go : (b : Bool) → pick b (bit_or M (mask k)) M < 2 ^ 64
        go true = or_lt 64 M (mask k) h (fits k lt)
        go false = h

    round_fits : (M : ℕ) → M < 2 ^ 64 → adding_round n test mask M < 2 ^ 64
    round_fits M h = counted_keeps (λ N. N < 2 ^ 64) (adding test mask) n adding_fits M h

    rest : adding_round n test mask (iter 64 (adding_round n test mask) start) ≡ iter 64 (adding_round n test mask) start
    rest =
        iter_fixpoint (adding_round n test mask) ones 64 (λ N. N < 2 ^ 64) round_fits (λ M h. ones-le 64 M h) (λ M _. up_counted ones (adding test mask) adding_up n M)
        64 start start_fits (omega arith)

    pub rounds_closed : (k : ℕ) → k < n → test k (iter 64 (adding_round n test mask) start) ≡ true → (t : ℕ) → has_bit t (mask k) ≡ true → has_bit t (iter 64 (adding_round n test mask) start) ≡ true
    rounds_closed k lt e t h =
        let F = iter 64 (adding_round n test mask) start in
        let same : pick (test k F) (bit_or F (mask k)) F ≡ F = counted_rest ones (adding test mask) adding_up n F rest k lt in
        let more : bit_or F (mask k) ≡ F = ap (λ b. pick b (bit_or F (mask k)) F) (sym e) ∙ same in
        ap (has_bit t) (sym more) ∙ has_or t F (mask k) ∙ or_right (has_bit t F) (has_bit t (mask k)) h

  pub rounds_start : (r start t : ℕ) → has_bit t start ≡ true → has_bit t (iter r (adding_round n test mask) start) ≡ true
  rounds_start r start t h =
      iter_keeps (λ M. has_bit t M ≡ true) _ (λ M q. counted_keeps (λ N. has_bit t N ≡ true) (adding test mask) n (λ k N _ s. go k N s (test k N)) M q) r start h
    where
      go : (k N : ℕ) → has_bit t N ≡ true → (b : Bool) → has_bit t (pick b (bit_or N (mask k)) N) ≡ true
      go k N s true = has_or t N (mask k) ∙ or_left (has_bit t N) (has_bit t (mask k)) s
      go k N s false = s

-- ---- a rule marks its own name

module _ (g : Grammar) (test : ℕ → List Sym → Bool) where
  abbrev by_row : ℕ → ℕ → Bool
  by_row k M = test M (rule g k).right

  abbrev by_name : ℕ → ℕ
  by_name k = bit_of (rule g k).left

  pub marked_sound : (P : ℕ → Type 0) → ((k M : ℕ) → k < length g → Marks P M → test M (rule g k).right ≡ true → P (rule g k).left) →
      Marks P (iter 64 (mark_round_lem test g) 0)
  marked_sound P ok =
      rounds_sound (length g) by_row by_name P (λ k M lt s e t h. subst P (sym (of_bit t (rule g k).left h)) (ok k M lt s e)) 64 0
      (λ t h. absurd (false≢true (sym (has_zero t) ∙ h)))

  pub marked_closed : Sizes g → (k : ℕ) → k < length g → test (iter 64 (mark_round_lem test g) 0) (rule g k).right ≡ true →
      has_bit (rule g k).left (iter 64 (mark_round_lem test g) 0) ≡ true
  marked_closed s k lt e =
      rounds_closed (length g) by_row by_name (λ j _. bit_of_below (rule g j).left) 0 (lit< tt) k lt e (rule g k).left
      (bit_itself (rule g k).left (omega (arith, s.left_below k lt)))
