-- The machine, and what it promises. Each promise is a statement, a type whose proof is owed. Assumes nothing.
use Rattle.std.specs.Prelude.{◌≡◌, ℕ, zero, suc, ◌≤◌, Bool, true, false, ◌&&◌, ltb, ◌⊎◌, List, [], ◌∷◌, ◌++◌, length, nat_eq, nat_le, nat_lt}
use Rattle.grammar.specs.Grammar.{pick, every}
use Rattle.reader.specs.House.{Command, spelled, fits, Loaded, Answer}

pub data Event : Type 0 where
  said : List ℕ → Event  -- up to 4,097 bytes
  next : Event

pub data Act : Type 0 where
  shows : List ℕ → Act  -- up to 32 numbers
  done : Act
  refused : ℕ → Act

pub record Step : Type 0 where
  pub memory : List ℕ
  pub act : Act

pub record Engine : Type 0 where
  pub start : List ℕ
  pub step : List ℕ → Event → Step

-- how a command went: what was shown, and the end: 0 done, a refusal, 1000 still at it, 1001 a fault
pub record Ran : Type 0 where
  pub memory : List ℕ
  pub showed : List (List ℕ)
  pub end : ℕ

abbrev pub ran : List ℕ → List (List ℕ) → ℕ → Ran
ran m ss e = record { memory = m; showed = ss; end = e }

unfoldable pub one_act : (List ℕ → List (List ℕ) → Ran) → List (List ℕ) → List ℕ → Act → Ran
one_act go ss m (shows s) = pick (nat_le (length s) 32) (go m (ss ++ s ∷ [])) (ran m ss 1001)
one_act go ss m done = ran m ss 0
one_act go ss m (refused k) = ran m ss (pick (nat_le 1 k && nat_lt k 1000) k 1001)

unfoldable pub runs : ℕ → Engine → List ℕ → Event → List (List ℕ) → Ran
runs zero e m ev ss = ran m ss 1000
runs (suc n) e m ev ss = one_act (λ m₁ ss₁. runs n e m₁ next ss₁) ss (e.step m ev).memory (e.step m ev).act

unfoldable pub all_small : List ℕ → Bool
all_small ms = every (λ m. ltb m 18446744073709551616) ms

-- memory is all 0 at the start; it never grows, nor do its numbers beyond 64 bits
unfoldable pub Steady : Engine → Type 0
Steady e =
    (length e.start ≤ 524288) × (every (λ m. nat_eq m 0) e.start ≡ true)
    × ((m : List ℕ) (ev : Event) → (length (e.step m ev).memory ≡ length m) × (all_small m ≡ true → all_small (e.step m ev).memory ≡ true))

unfoldable pub Said : List ℕ → Command → Type 0
Said text a = (spelled a ≡ text) × (fits a ≡ true)

pub data Never : Type 0 where

-- what a row of bytes may be answered with
unfoldable pub May : (Command → Bool) → List ℕ → ℕ → List (List ℕ) → Loaded → Loaded → Type 0
May known text k ss old new =
    ((a : Command) × Said text a × (known a ≡ true) × Answer a k ss old new)
    ⊎ (((a : Command) × Said text a × (known a ≡ false) × (k ≡ 2) × (ss ≡ []) × (new ≡ old))
    ⊎ (((a : Command) → Said text a → Never) × (k ≡ 1) × (ss ≡ []) × (new ≡ old)))

unfoldable pub Right : (Command → Bool) → Engine → List ℕ → Loaded → List (List ℕ) → Type 0
Right known e m old [] = zero ≡ zero
Right known e m old (t ∷ ts) =
    (n : ℕ) × (new : Loaded)
    × May known t (runs n e m (said t) []).end (runs n e m (said t) []).showed old new
    × Right known e (runs n e m (said t) []).memory new ts

-- THE MAIN PROMISE, for whatever rows of bytes come
unfoldable pub Whole : (Command → Bool) → Engine → Type 0
Whole known e =
    Steady e
    × ((ts : List (List ℕ)) → length ts ≤ 4294967296 → every (λ t. nat_le (length t) 4097 && every (λ b. ltb b 256) t) ts ≡ true →
    Right known e e.start [] ts)

-- No two commands are spelled alike.
unfoldable pub SpelledOnce : Type 0
SpelledOnce = (a c : Command) → fits a ≡ true → fits c ≡ true → spelled a ≡ spelled c → a ≡ c
