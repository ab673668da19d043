-- What can be said to the reader, and what it is to answer. Assumes nothing: these are definitions.
use Rattle.std.specs.Prelude.{◌≡◌, ℕ, zero, suc, Bool, true, false, ◌&&◌, ◌⊎◌, List, [], ◌∷◌, length, nat_le, nat_lt}
use Rattle.grammar.specs.Grammar.{every, each, backwards, Grammar, a_grammar, Makes, Clash, Clashes, Enough, Useful, AllUseful, in_grammar}
use Rattle.grammar.specs.Texts.{Begins, NotBegins, NotMade, FirstWrong, Follows}
use Rattle.grammar.specs.Spelling.{sym_spelled, flat}

pub data Command : Type 0 where
  load : Grammar → Command
  read_text : List ℕ → Command
  what_next : List ℕ → Command

abbrev pub a_text : List ℕ → Bool
a_text ts = nat_le (length ts) 4096 && every (λ t. nat_lt t 24) ts

-- a grammar that's loaded, or none
abbrev pub Loaded : Type 0
Loaded = List Grammar

-- rules in the order in which they come to their end: the last one first, and each as a row
abbrev pub shown_rules : List ℕ → List (List ℕ)
shown_rules ds = each (λ r. r ∷ []) (backwards ds)

-- what may be answered, with a grammar
unfoldable pub With : Grammar → Command → ℕ → List (List ℕ) → Type 0
With g (load h) k ss = zero ≡ suc zero
With g (read_text ts) k ss =
    ((ds : List ℕ) × Makes g ds ts × (k ≡ 0) × (ss ≡ shown_rules ds))
    ⊎ (NotMade g ts × (p : ℕ) × FirstWrong g ts p × (k ≡ 4) × (ss ≡ (p ∷ []) ∷ []))
With g (what_next ts) k ss =
    (Begins g ts × (ks : List ℕ) × Follows g ts ks × (k ≡ 0) × (ss ≡ ks ∷ []))
    ⊎ (NotBegins g ts × (p : ℕ) × FirstWrong g ts p × (k ≡ 4) × (ss ≡ (p ∷ []) ∷ []))

-- loading: 6, some name is of no use, which is shown; 5, one look ahead isn't enough, and why
unfoldable pub Loading : Grammar → ℕ → List (List ℕ) → Loaded → Loaded → Type 0
Loading h k ss old new =
    (AllUseful h × Enough h × (k ≡ 0) × (ss ≡ []) × (new ≡ h ∷ []))
    ⊎ ((AllUseful h × (c : Clash) × Clashes h c × (k ≡ 5) × (ss ≡ (c.due ∷ c.other ∷ c.ahead ∷ []) ∷ []) × (new ≡ old))
    ⊎ ((n : ℕ) × (in_grammar h n ≡ true) × (Useful h n → zero ≡ suc zero) × (k ≡ 6) × (ss ≡ (n ∷ []) ∷ []) × (new ≡ old)))

unfoldable pub Answer : Command → ℕ → List (List ℕ) → Loaded → Loaded → Type 0
Answer (load h) k ss old new = Loading h k ss old new
Answer (read_text ts) k ss [] new = (k ≡ 3) × (ss ≡ []) × (new ≡ [])
Answer (read_text ts) k ss (g ∷ gs) new = With g (read_text ts) k ss × (new ≡ g ∷ gs)
Answer (what_next ts) k ss [] new = (k ≡ 3) × (ss ≡ []) × (new ≡ [])
Answer (what_next ts) k ss (g ∷ gs) new = With g (what_next ts) k ss × (new ≡ g ∷ gs)

-- SPELLED: 1, how many rules, and for each its left side, how many on its right, these, names from 32 on; 2 or 3 and signs
unfoldable pub spelled : Command → List ℕ
spelled (load g) = 1 ∷ length g ∷ flat (λ r. r.left ∷ length r.right ∷ each sym_spelled r.right) g
spelled (read_text ts) = 2 ∷ ts
spelled (what_next ts) = 3 ∷ ts

unfoldable pub fits : Command → Bool
fits (load g) = a_grammar g
fits (read_text ts) = a_text ts
fits (what_next ts) = a_text ts

-- THE SMALL CORE: grammars are loaded and texts read. What may come next makes everything known.
unfoldable pub core : Command → Bool
core (load g) = true
core (read_text ts) = true
core (what_next ts) = false

abbrev pub everything : Command → Bool
everything c = true
