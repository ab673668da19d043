-- Derivations from the right: rules one after the other, and one step with its way back.
use Rattle.std.proofs.Common.{◌≡◌, ℕ, ◌<◌, Bool, true, false, ◌&&◌, eqb, ltb, ◌⊎◌, List, [], ◌∷◌, ◌++◌, length, sym, refl, ap, ◌∙◌, subst, inl, inr}
use Rattle.std.proofs.lemmas.Bool.{and_parts, lt-ltb, eq-eqb, ltb-true, eqb-true}
use Rattle.grammar.specs.Grammar.{pick, each, Sym, sign, name, Grammar, rule, signs, all_signs, Split, split, put_before, first_split, here_or, last_name, by_rule, comes_by}
use Rattle.grammar.specs.Statements.{LastRight}
use Rattle.grammar.proofs.Lists.{nil_not_cons}
use Rattle.grammar.proofs.Signs.{all_signs_signs}

pub comes_by_none : (g : Grammar) (es : List ℕ) → comes_by g es [] ≡ []
unfolding comes_by
comes_by_none g [] = refl
comes_by_none g (e ∷ es) = refl

pub comes_by_append : (g : Grammar) (ds es : List ℕ) (fs : List (List Sym)) → comes_by g (ds ++ es) fs ≡ comes_by g es (comes_by g ds fs)
unfolding comes_by
comes_by_append g [] es fs = refl
comes_by_append g (d ∷ ds) es [] = sym (comes_by_none g es)
comes_by_append g (d ∷ ds) es (f ∷ fs) = comes_by_append g ds es (by_rule g d (last_name f))

pub comes_by_then : (g : Grammar) (ds es : List ℕ) (f m : List Sym) (hs : List (List Sym)) → comes_by g ds (f ∷ []) ≡ m ∷ [] → comes_by g es (m ∷ []) ≡ hs →
    comes_by g (ds ++ es) (f ∷ []) ≡ hs
comes_by_then g ds es f m hs d e = comes_by_append g ds es (f ∷ []) ∙ ap (comes_by g es) d ∙ e

-- THE LAST NAME
pub last_name_signs : (w : List ℕ) → last_name (signs w) ≡ []
unfolding last_name each first_split put_before here_or
last_name_signs [] = refl
last_name_signs (t ∷ w) = rw (last_name_signs w)

pub last_name_at : (a : List Sym) (n : ℕ) (w : List ℕ) → last_name (a ++ name n ∷ signs w) ≡ split a n (signs w) ∷ []
unfolding last_name first_split put_before here_or
last_name_at [] n w = rw (last_name_signs w)
last_name_at (s ∷ a) n w = rw (last_name_at a n w)

abbrev pub AllSigns : List Sym → Type 0
AllSigns f = (w : List ℕ) × (f ≡ signs w)

abbrev pub HasLast : List Sym → Type 0
HasLast f = (b : List Sym) × (n : ℕ) × (w : List ℕ) × (f ≡ b ++ name n ∷ signs w)

-- a row is signs, or has a last name
pub view : (f : List Sym) → AllSigns f ⊎ HasLast f
unfolding each
view [] = inl ([], refl)
view (s ∷ f) = go s (view f)
  where
    go : (s : Sym) → AllSigns f ⊎ HasLast f → AllSigns (s ∷ f) ⊎ HasLast (s ∷ f)
    go (sign t) (inl p) = inl (t ∷ p.0, ap (λ l. sign t ∷ l) p.1)
    go (name n) (inl p) = inr ([], n, p.0, ap (λ l. name n ∷ l) p.1)
    go s (inr p) = inr (s ∷ p.0, p.1, p.2, ap (λ l. s ∷ l) p.3)

pub last_right_lem : LastRight
unfolding LastRight
last_right_lem f x xs e = go (view f)
  where
    go : AllSigns f ⊎ HasLast f → (f ≡ x.before ++ name x.at ∷ x.behind) × (all_signs x.behind ≡ true) × (xs ≡ [])
    go (inl p) = absurd (nil_not_cons (sym (ap last_name p.1 ∙ last_name_signs p.0) ∙ e))
    go (inr (b, n, w, i)) =
        let k : split b n (signs w) ∷ [] ≡ x ∷ xs = sym (ap last_name i ∙ last_name_at b n w) ∙ e in
        let q : x ≡ split b n (signs w) = cc in
        let s = all_signs_signs w in
        (i ∙ ap (λ (y : Split). y.before ++ name y.at ∷ y.behind) (sym q), ap (λ (y : Split). all_signs y.behind) q ∙ s, cc)

-- ONE STEP
pub record Step (g : Grammar) (r : ℕ) (f h : List Sym) : Type 0 where
  pub front : List Sym
  pub it : ℕ
  pub tail : List ℕ
  pub is : f ≡ front ++ name it ∷ signs tail
  pub there : r < length g
  pub fits : (rule g r).left ≡ it
  pub gives : h ≡ front ++ (rule g r).right ++ signs tail

pub by_rule_at : (g : Grammar) (r : ℕ) (a : List Sym) (n : ℕ) (w : List ℕ) → r < length g → (rule g r).left ≡ n →
    by_rule g r (last_name (a ++ name n ∷ signs w)) ≡ (a ++ (rule g r).right ++ signs w) ∷ []
unfolding by_rule
by_rule_at g r a n w l e = rw (last_name_at a n w, lt-ltb r (length g) l, eq-eqb (rule g r).left n e)

pub step_forward : (g : Grammar) (r : ℕ) (f h : List Sym) → Step g r f h → by_rule g r (last_name f) ≡ h ∷ []
step_forward g r f h s = let p = by_rule_at g r s.front s.it s.tail s.there s.fits in cc

pub step_back : (g : Grammar) (r : ℕ) (f h : List Sym) (hs : List (List Sym)) → by_rule g r (last_name f) ≡ h ∷ hs → Step g r f h × (hs ≡ [])
unfolding by_rule
step_back g r f h hs e = go (view f)
  where
    at : (b : List Sym) (n : ℕ) (w : List ℕ) → f ≡ b ++ name n ∷ signs w → (t : Bool) → (ltb r (length g) && eqb (rule g r).left n) ≡ t →
        pick t ((b ++ (rule g r).right ++ signs w) ∷ []) [] ≡ h ∷ hs → Step g r f h × (hs ≡ [])
    at b n w i true p k =
        let q = and_parts (ltb r (length g)) (eqb (rule g r).left n) p in
        (record { front = b; it = n; tail = w; is = i; there = ltb-true r (length g) q.0; fits = eqb-true (rule g r).left n q.1; gives = cc }, cc)
    at b n w i false p k = absurd (nil_not_cons k)

    go : AllSigns f ⊎ HasLast f → Step g r f h × (hs ≡ [])
    go (inl p) =
        let z : last_name f ≡ [] = ap last_name p.1 ∙ last_name_signs p.0 in
        let k : by_rule g r [] ≡ h ∷ hs = subst (λ x. by_rule g r x ≡ h ∷ hs) z e in
        absurd (nil_not_cons k)
    go (inr p) =
        let z : last_name f ≡ split p.0 p.1 (signs p.2) ∷ [] = ap last_name p.3 ∙ last_name_at p.0 p.1 p.2 in
        let k : by_rule g r (split p.0 p.1 (signs p.2) ∷ []) ≡ h ∷ hs = subst (λ x. by_rule g r x ≡ h ∷ hs) z e in
        at p.0 p.1 p.2 p.3 _ refl k

-- STEPS AT THE ENDS OF A DERIVATION
pub first_step : (g : Grammar) (r : ℕ) (rs : List ℕ) (f k : List Sym) (ks : List (List Sym)) → comes_by g (r ∷ rs) (f ∷ []) ≡ k ∷ ks →
    (m : List Sym) × Step g r f m × (comes_by g rs (m ∷ []) ≡ k ∷ ks)
unfolding comes_by
first_step g r rs f k ks e = go (by_rule g r (last_name f)) refl e
  where
    go : (hs : List (List Sym)) → by_rule g r (last_name f) ≡ hs → comes_by g rs hs ≡ k ∷ ks → (m : List Sym) × Step g r f m × (comes_by g rs (m ∷ []) ≡ k ∷ ks)
    go [] p e = absurd (nil_not_cons (sym (comes_by_none g rs) ∙ e))
    go (h ∷ hs) p e = let s = step_back g r f h hs p in (h, s.0, rw s.1 at e)

pub then_step : (g : Grammar) (r : ℕ) (rs : List ℕ) (f m : List Sym) (ks : List (List Sym)) → Step g r f m → comes_by g rs (m ∷ []) ≡ ks → comes_by g (r ∷ rs) (f ∷ []) ≡ ks
unfolding comes_by
then_step g r rs f m ks s e = rw (step_forward g r f m s) e

pub one_at_most : (g : Grammar) (ds : List ℕ) (f k : List Sym) (ks : List (List Sym)) → comes_by g ds (f ∷ []) ≡ k ∷ ks → ks ≡ []
unfolding comes_by
one_at_most g [] f k ks e = cc
one_at_most g (d ∷ ds) f k ks e = let s = first_step g d ds f k ks e in one_at_most g ds s.0 k ks s.2

pub last_step : (g : Grammar) (ds : List ℕ) (r : ℕ) (f h : List Sym) → comes_by g (ds ++ r ∷ []) (f ∷ []) ≡ h ∷ [] →
    (m : List Sym) × (comes_by g ds (f ∷ []) ≡ m ∷ []) × Step g r m h
unfolding comes_by
last_step g ds r f h e = go (comes_by g ds (f ∷ [])) refl (sym (comes_by_append g ds (r ∷ []) (f ∷ [])) ∙ e)
  where
    go : (ms : List (List Sym)) → comes_by g ds (f ∷ []) ≡ ms → comes_by g (r ∷ []) ms ≡ h ∷ [] → (m : List Sym) × (comes_by g ds (f ∷ []) ≡ m ∷ []) × Step g r m h
    go [] p e = absurd (nil_not_cons e)
    go (m ∷ ms) p e = let o = one_at_most g ds f m ms p in (m, rw o at p, (step_back g r m h [] e).0)
