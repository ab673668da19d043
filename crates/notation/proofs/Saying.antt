-- The steps of the functions that write commands.
use Rattle.std.proofs.Common.{◌≡◌, ℕ, ◌+◌, ◌<◌, ◌≤◌, Bool, true, cond, ltb, List, [], ◌∷◌, ◌++◌, map, length, refl, ap, ◌∙◌, arith}
use Rattle.grammar.specs.Grammar.{every}
use Rattle.grammar.specs.Spelling.{byte_ok}
use Rattle.std.proofs.lemmas.List.{append_assoc, length-append}
use Rattle.std.proofs.lemmas.Bool.{and_from, and_parts, lt-ltb}
use Rattle.notation.specs.Said.{TextSaid}

-- what a call that may fail for memory leaves, where it did not
pub at_ok : {A : Type 0} (c x y : A) (t : Bool) → c ≡ cond t x y → t ≡ true → c ≡ x
at_ok c x y t e h = e ∙ ap (λ z. cond z x y) h

-- a rule's name and count, then its symbols
pub rule_said_all : (f : ℕ → ℕ) (a b c us vs : List ℕ) (x y x' y' : ℕ) (t : Bool) → b ≡ cond t (a ++ (x ∷ y ∷ [])) a → t ≡ true → c ≡ b ++ map f us → x ≡ x' → y ≡ y' → us ≡ vs → c ≡ a ++ (x' ∷ y' ∷ map f vs)
rule_said_all f a b c us vs x y x' y' t e ok k p q r =
    let v : b ≡ a ++ (x ∷ y ∷ []) = at_ok b (a ++ (x ∷ y ∷ [])) a t e ok in
    let u : a ++ (x ∷ y ∷ []) ++ map f us ≡ a ++ ((x ∷ y ∷ []) ++ map f us) = append_assoc a (x ∷ y ∷ []) (map f us) in
    let m : map f us ≡ map f vs = ap (map f) r in
    cc

-- the first byte of a text's command
pub text_said_none : (kind : ℕ) (bs : List ℕ) → bs ≡ kind ∷ [] → TextSaid kind bs
unfolding every
text_said_none kind bs e = record { signs = []; is = e; few = omega arith; good = refl }

pub every_push : {A : Type 0} (f : A → Bool) (xs : List A) (x : A) → every f xs ≡ true → f x ≡ true → every f (xs ++ x ∷ []) ≡ true
unfolding every
every_push f [] x h e = rw e refl
every_push f (y ∷ ys) x h e =
    let p = and_parts (f y) (every f ys) h in
    and_from (f y) (every f (ys ++ x ∷ [])) p.0 (every_push f ys x p.1 e)

-- one more sign
pub text_said_more : (kind : ℕ) (bs cs : List ℕ) (b : ℕ) (t : Bool) → TextSaid kind bs → length bs ≤ 4096 → b < 24 → cs ≡ cond t (bs ++ b ∷ []) bs → t ≡ true → TextSaid kind cs
text_said_more kind bs cs b t h l s k ok =
    let is : bs ≡ kind ∷ h.signs = h.is in
    let n : length bs ≡ length (kind ∷ h.signs) = ap length is in
    let m : length (h.signs ++ b ∷ []) ≡ length h.signs + length (b ∷ []) = length-append h.signs (b ∷ []) in
    let v : cs ≡ bs ++ b ∷ [] = at_ok cs (bs ++ b ∷ []) bs t k ok in
    record {
      signs = h.signs ++ b ∷ [];
      is = v ∙ ap (λ z. z ++ b ∷ []) is;
      few = omega (arith, n, m);
      good = every_push (λ z. ltb z 24) h.signs b h.good (lt-ltb b 24 s);
    }

-- the byte of a sign
pub byte_ok_sign : (s : ℕ) → s < 24 → byte_ok s ≡ true
byte_ok_sign s l = grind arith

pub every_none : {A : Type 0} (f : A → Bool) (xs : List A) → xs ≡ [] → every f xs ≡ true
unfolding every
every_none f xs e = rw e refl

pub every_more : {A : Type 0} (f : A → Bool) (xs ys : List A) (x : A) → every f xs ≡ true → f x ≡ true → ys ≡ xs ++ x ∷ [] → every f ys ≡ true
every_more f xs ys x h t e = ap (every f) e ∙ every_push f xs x h t
