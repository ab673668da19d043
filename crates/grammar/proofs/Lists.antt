-- Lists: what holds of every part, rows turned round, and one row split in two ways.
use Rattle.std.proofs.Common.{◌≡◌, ℕ, ◌≤◌, Bool, true, false, ◌⊎◌, List, [], ◌∷◌, ◌++◌, length, sym, refl, ap₂, inl, inr, append_assoc, append-nil, arith}
use Rattle.std.proofs.lemmas.Bool.{and_parts, and_from}
use Rattle.grammar.specs.Grammar.{or, every, any, each, backwards}

-- `never (cc)` closes a case whose constructors clash
pub never : {A : Type 0} → ◌≡◌ {A = ℕ} 0 1 → A
never e = absurd (omega arith)

pub nil_not_cons : {A : Type 0} {x : A} {xs : List A} → [] ≡ x ∷ xs → ⊥
nil_not_cons {x = x} {xs = xs} e = let z : ◌≡◌ {A = ℕ} 0 1 = cc in omega arith

pub nil_parts : {A : Type 0} (u v : List A) → u ++ v ≡ [] → (u ≡ []) × (v ≡ [])
nil_parts [] v e = (refl, e)
nil_parts (x ∷ u) v e = never (cc)

pub or_left : (a b : Bool) → a ≡ true → or a b ≡ true
or_left a b h = rw h

pub or_right : (a b : Bool) → b ≡ true → or a b ≡ true
or_right true b h = refl
or_right false b h = h

pub or_either : (a b : Bool) → or a b ≡ true → (a ≡ true) ⊎ (b ≡ true)
or_either true b h = inl refl
or_either false b h = inr h

pub every_append : {A : Type 0} (f : A → Bool) (a b : List A) → every f a ≡ true → every f b ≡ true → every f (a ++ b) ≡ true
unfolding every
every_append f [] b p q = q
every_append f (x ∷ a) b p q =
    let h = and_parts (f x) (every f a) p in
    and_from (f x) (every f (a ++ b)) h.0 (every_append f a b h.1 q)

pub every_parts : {A : Type 0} (f : A → Bool) (a b : List A) → every f (a ++ b) ≡ true → (every f a ≡ true) × (every f b ≡ true)
unfolding every
every_parts f [] b p = (refl, p)
every_parts f (x ∷ a) b p =
    let h = and_parts (f x) (every f (a ++ b)) p in
    let r = every_parts f a b h.1 in
    (and_from (f x) (every f a) h.0 r.0, r.1)

pub every_at : {A : Type 0} (f : A → Bool) (d : List A) (x : A) (β : List A) → every f (d ++ x ∷ β) ≡ true → f x ≡ true
unfolding every
every_at f d x β h = (and_parts (f x) (every f β) (every_parts f d (x ∷ β) h).1).0

pub any_at : {A : Type 0} (f : A → Bool) (d : List A) (x : A) (β : List A) → f x ≡ true → any f (d ++ x ∷ β) ≡ true
unfolding any
any_at f [] x β h = or_left (f x) (any f β) h
any_at f (y ∷ d) x β h = or_right (f y) (any f (d ++ x ∷ β)) (any_at f d x β h)

pub each_append : {A B : Type 0} (f : A → B) (a b : List A) → each f (a ++ b) ≡ each f a ++ each f b
unfolding each
each_append f [] b = refl
each_append f (x ∷ a) b = rw (each_append f a b)

pub backwards_append : {A : Type 0} (a b : List A) → backwards (a ++ b) ≡ backwards b ++ backwards a
unfolding backwards
backwards_append [] b = sym (append-nil (backwards b))
backwards_append (x ∷ a) b = rw (backwards_append a b) (append_assoc (backwards b) (backwards a) (x ∷ []))

pub backwards_backwards : {A : Type 0} (a : List A) → backwards (backwards a) ≡ a
unfolding backwards
backwards_backwards [] = refl
backwards_backwards (x ∷ a) = rw (backwards_append (backwards a) (x ∷ []), backwards_backwards a)

-- one row split at one length
pub same_split : {A : Type 0} (a b w x : List A) → a ++ w ≡ b ++ x → length a ≡ length b → (a ≡ b) × (w ≡ x)
same_split [] [] w x e l = (refl, e)
same_split [] (c ∷ b) w x e l = absurd (omega arith)
same_split (c ∷ a) [] w x e l = absurd (omega arith)
same_split (c ∷ a) (d ∷ b) w x e l =
    let t : a ++ w ≡ b ++ x = cc in
    let h : c ≡ d = cc in
    let r = same_split a b w x t (omega arith) in
    (cc, r.1)

-- one row split at two lengths: the longer front goes on from the shorter
pub longer_split : {A : Type 0} (p a q b : List A) → p ++ a ≡ q ++ b → length q ≤ length p → (z : List A) × (p ≡ q ++ z) × (b ≡ z ++ a)
longer_split p a [] b e h = (p, refl, sym e)
longer_split [] a (y ∷ q) b e h = absurd (omega arith)
longer_split (x ∷ p) a (y ∷ q) b e h =
    let z : x ≡ y = cc in
    let k = longer_split p a q b (cc) (omega arith) in
    (k.0, ap₂ (λ u v. u ∷ v) z k.1, k.2)
