-- Grammars, what comes of them from the right, and when one look ahead is enough. Assumes nothing: these are definitions.
use Rattle.std.specs.Prelude.{◌≡◌, ℕ, zero, suc, ◌+◌, ◌<◌, Bool, true, false, ◌&&◌, ◌⊎◌, List, [], ◌∷◌, ◌++◌, length, ◌==◌, nat_le, nat_lt}

abbrev pub pick : {A : Type 0} → Bool → A → A → A
pick true a b = a
pick false a b = b

abbrev pub or : Bool → Bool → Bool
or true b = true
or false b = b

unfoldable pub every : {A : Type 0} → (A → Bool) → List A → Bool
every f [] = true
every f (x ∷ xs) = f x && every f xs

unfoldable pub any : {A : Type 0} → (A → Bool) → List A → Bool
any f [] = false
any f (x ∷ xs) = or (f x) (any f xs)

unfoldable pub those : {A : Type 0} → (A → Bool) → List A → List A
those f [] = []
those f (x ∷ xs) = pick (f x) (x ∷ those f xs) (those f xs)

unfoldable pub each : {A B : Type 0} → (A → B) → List A → List B
each f [] = []
each f (x ∷ xs) = f x ∷ each f xs

unfoldable pub none_of : {A : Type 0} → List A → Bool
none_of [] = true
none_of (x ∷ xs) = false

unfoldable pub added_up : {A : Type 0} → (A → ℕ) → List A → ℕ
added_up f [] = 0
added_up f (x ∷ xs) = f x + added_up f xs

unfoldable pub backwards : {A : Type 0} → List A → List A
backwards [] = []
backwards (x ∷ xs) = backwards xs ++ x ∷ []

-- a sign that stands in texts, or a name for what's made of others
pub data Sym : Type 0 where
  sign : ℕ → Sym
  name : ℕ → Sym

pub record Rule : Type 0 where
  pub left : ℕ
  pub right : List Sym

-- rules by number; the first is the beginning, and is named nowhere else
abbrev pub Grammar : Type 0
Grammar = List Rule

unfoldable pub is_sign : Sym → Bool
is_sign (sign n) = true
is_sign (name n) = false

unfoldable pub same_sym : Sym → Sym → Bool
same_sym (sign a) (sign b) = a == b
same_sym (sign a) (name b) = false
same_sym (name a) (sign b) = false
same_sym (name a) (name b) = a == b

unfoldable pub same_row : List Sym → List Sym → Bool
same_row [] [] = true
same_row [] (b ∷ bs) = false
same_row (a ∷ as₁) [] = false
same_row (a ∷ as₁) (b ∷ bs) = same_sym a b && same_row as₁ bs

abbrev pub no_rule : Rule
no_rule = record { left = 0; right = [] }

unfoldable pub rule : Grammar → ℕ → Rule
rule [] k = no_rule
rule (r ∷ rs) zero = r
rule (r ∷ rs) (suc k) = rule rs k

-- WHICH THERE ARE: up to 24 signs, 32 names, 64 rules with 128 on their right sides; name 0 is the beginning's, of the first rule only, and on no right side
unfoldable pub sym_fits : Sym → Bool
sym_fits (sign n) = nat_lt n 24
sym_fits (name n) = nat_le 1 n && nat_lt n 32

unfoldable pub later_fit : List Rule → Bool
later_fit [] = true
later_fit (r ∷ rs) = (nat_le 1 r.left && nat_lt r.left 32) && later_fit rs

unfoldable pub begins_well : Grammar → Bool
begins_well [] = false
begins_well (r ∷ rs) = r.left == 0 && (length r.right == 1 && later_fit rs)

abbrev pub a_grammar : Grammar → Bool
a_grammar g =
    (begins_well g && nat_le (length g) 64) && (every (λ r. every sym_fits r.right) g && nat_le (added_up (λ r. length r.right) g) 128)

-- WHAT COMES OF IT: rules by their numbers, one after the other, each in place of the last name; none, or one
pub record Split : Type 0 where
  pub before : List Sym
  pub at : ℕ
  pub behind : List Sym

abbrev pub split : List Sym → ℕ → List Sym → Split
split as₁ n bs = record { before = as₁; at = n; behind = bs }

unfoldable pub put_before : Sym → List Split → List Split
put_before s [] = []
put_before s (x ∷ xs) = split (s ∷ x.before) x.at x.behind ∷ []

unfoldable pub first_split : List Split → List Split → List Split
first_split [] ys = ys
first_split (x ∷ xs) ys = x ∷ []

unfoldable pub here_or : Sym → List Sym → List Split
here_or (sign n) ss = []
here_or (name n) ss = split [] n ss ∷ []

-- at its last name: what's behind are signs
unfoldable pub last_name : List Sym → List Split
last_name [] = []
last_name (s ∷ ss) = first_split (put_before s (last_name ss)) (here_or s ss)

unfoldable pub by_rule : Grammar → ℕ → List Split → List (List Sym)
by_rule g r [] = []
by_rule g r (x ∷ xs) = pick (nat_lt r (length g) && (rule g r).left == x.at) ((x.before ++ (rule g r).right ++ x.behind) ∷ []) []

unfoldable pub comes_by : Grammar → List ℕ → List (List Sym) → List (List Sym)
comes_by g [] fs = fs
comes_by g (r ∷ rs) [] = []
comes_by g (r ∷ rs) (f ∷ fs) = comes_by g rs (by_rule g r (last_name f))

abbrev pub form : Grammar → List ℕ → List (List Sym)
form g ds = comes_by g ds ((name 0 ∷ []) ∷ [])

abbrev pub signs : List ℕ → List Sym
signs ts = each (λ t. sign t) ts

-- a text of the grammar, by these rules
unfoldable pub Makes : Grammar → List ℕ → List ℕ → Type 0
Makes g ds ts = form g ds ≡ signs ts ∷ []

-- ONE LOOK AHEAD: the sign that comes, or 24 for none
unfoldable pub look : List Sym → ℕ
look [] = 24
look (sign n ∷ ss) = n
look (name n ∷ ss) = 25

abbrev pub all_signs : List Sym → Bool
all_signs ss = every is_sign ss

-- NOT ENOUGH: behind the same symbols, and with the same sign ahead, a rule is due, and in another text another rule is, or one has to go on
pub record Clash : Type 0 where
  pub due : ℕ
  pub other : ℕ  -- a rule, or 64: go on
  pub ahead : ℕ

unfoldable pub Clashes : Grammar → Clash → Type 0
Clashes g c =
    (ds es : List ℕ) × (a w b x y : List Sym) × (n m q : ℕ)
    × (form g ds ≡ (a ++ name n ∷ w) ∷ []) × (all_signs w ≡ true) × (c.due < length g) × ((rule g c.due).left ≡ n) × (look w ≡ c.ahead)
    × (form g es ≡ (b ++ name m ∷ x) ∷ []) × (all_signs x ≡ true) × (q < length g) × ((rule g q).left ≡ m)
    × (b ++ (rule g q).right ++ x ≡ a ++ (rule g c.due).right ++ y) × (all_signs y ≡ true) × (look y ≡ c.ahead)
    × (((c.other ≡ q) × ((q == c.due) ≡ false) × (length (b ++ (rule g q).right) ≡ length (a ++ (rule g c.due).right)))
    ⊎ ((c.other ≡ 64) × (length (a ++ (rule g c.due).right) < length (b ++ (rule g q).right))))

unfoldable pub Enough : Grammar → Type 0
Enough g = (c : Clash) → Clashes g c → zero ≡ suc zero

-- EVERY NAME IS OF USE: something comes of it, and it comes of the beginning
unfoldable pub Useful : Grammar → ℕ → Type 0
Useful g n =
    (ds es : List ℕ) × (ts : List ℕ) × (a w : List Sym) × (form g ds ≡ (a ++ name n ∷ w) ∷ []) × (comes_by g es ((name n ∷ []) ∷ []) ≡ signs ts ∷ [])

unfoldable pub is_name : ℕ → Sym → Bool
is_name n (sign k) = false
is_name n (name k) = n == k

abbrev pub in_grammar : Grammar → ℕ → Bool
in_grammar g n = any (λ r. or (r.left == n) (any (is_name n) r.right)) g

unfoldable pub AllUseful : Grammar → Type 0
AllUseful g = (n : ℕ) → in_grammar g n ≡ true → Useful g n
