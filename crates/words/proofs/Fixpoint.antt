-- Rounds on a state with a size that grows and is bounded: enough of them come to a fixpoint, and a run that stops at the first round
-- that changes nothing has computed just that.
--     iter_keeps, counted_keeps, folded_keeps      what holds at the start and is kept by a step holds at the end
--     iter_fixpoint      enough rounds come to a fixpoint
--     reached_none, reached_more, reached_rest      a run that stops at the first round that changes nothing
--     up_then, up_counted, up_folded      steps that change nothing or enlarge make such a round
--     counted_rest, folded_rest      where the round changes nothing, each of its steps changes nothing
--     grew_none, grew_then      the answers of such steps, joined by or
use Rattle.std.proofs.Common.{◌≡◌, ℕ, zero, suc, ◌+◌, ◌-◌, ◌<◌, ◌≤◌, Bool, true, false, ◌||◌, List, [], ◌∷◌, length, get_or, fold, sym, refl, ap, ◌∙◌, subst, inl, inr, ⊎_elim, suc-add, zero-add, add-one, arith}
use Rattle.std.proofs.lemmas.Bool.{cases_eq, true≢false, false≢true}
use Rattle.words.specs.Iter.{iter, counted, Up, Grew, Reached}

-- ---- iter, counted

-- a fixpoint stays
pub iter_rests : {X : Type 0} (f : X → X) (n : ℕ) (x : X) → f x ≡ x → iter n f x ≡ x
unfolding iter
iter_rests f zero x e = refl
iter_rests f (suc n) x e = ap (iter n f) e ∙ iter_rests f n x e

-- the first round may be done last
pub iter_last : {X : Type 0} (f : X → X) (n : ℕ) (x : X) → iter n f (f x) ≡ f (iter n f x)
unfolding iter
iter_last f zero x = refl
iter_last f (suc n) x = iter_last f n (f x)

pub iter_plus : {X : Type 0} (f : X → X) (m n : ℕ) (x : X) → iter (m + n) f x ≡ iter n f (iter m f x)
unfolding iter
iter_plus f zero n x = ap (λ k. iter k f x) (zero-add n)
iter_plus f (suc m) n x = ap (λ k. iter k f x) (suc-add m n) ∙ iter_plus f m n (f x)

-- soundness with P = sound, leastness with P = below a given closed state
pub iter_keeps : {X : Type 0} (P : X → Type 0) (f : X → X) → ((x : X) → P x → P (f x)) → (n : ℕ) (x : X) → P x → P (iter n f x)
unfolding iter
iter_keeps P f keep zero x p = p
iter_keeps P f keep (suc n) x p = iter_keeps P f keep n (f x) (keep x p)

pub counted_more : {X : Type 0} (f : ℕ → X → X) (n : ℕ) (x : X) → counted (n + 1) f x ≡ f n (counted n f x)
unfolding counted
counted_more f n x = ap (λ k. counted k f x) (add-one n)

-- one step more
pub counted_then : {X : Type 0} (f : ℕ → X → X) (n : ℕ) (x y z : X) → y ≡ counted n f x → z ≡ f n y → z ≡ counted (n + 1) f x
counted_then f n x y z e d = d ∙ ap (f n) e ∙ sym (counted_more f n x)

-- what every step leaves as it is stays
pub counted_stays : {X : Type 0} (f : ℕ → X → X) (x y : X) → ((k : ℕ) → f k y ≡ y) → (m n : ℕ) → m ≤ n → counted m f x ≡ y → counted n f x ≡ y
unfolding counted
counted_stays f x y stay m zero h e = ap (λ k. counted k f x) (let z : 0 ≡ m = omega arith in z) ∙ e
counted_stays f x y stay m (suc n) h e =
    ⊎_elim (λ i. ap (λ k. counted k f x) (sym i) ∙ e) (λ d. ap (f n) (counted_stays f x y stay m n (omega arith) e) ∙ stay n) (cases_eq m (suc n))

-- steps that change nothing
pub counted_still : {X : Type 0} (f : ℕ → X → X) (n : ℕ) (x : X) → ((k : ℕ) → k < n → f k x ≡ x) → counted n f x ≡ x
unfolding counted
counted_still f zero x h = refl
counted_still f (suc n) x h = ap (f n) (counted_still f n x (λ k l. h k (omega arith))) ∙ h n (omega arith)

pub counted_keeps : {X : Type 0} (P : X → Type 0) (f : ℕ → X → X) (n : ℕ) → ((k : ℕ) (x : X) → k < n → P x → P (f k x)) → (x : X) → P x → P (counted n f x)
unfolding counted
counted_keeps P f zero keep x p = p
counted_keeps P f (suc n) keep x p = keep n (counted n f x) (omega arith) (counted_keeps P f n (λ k y h. keep k y (omega arith)) x p)

pub folded_keeps : {X Y : Type 0} (P : X → Type 0) (f : X → Y → X) → ((x : X) (y : Y) → P x → P (f x y)) → (ys : List Y) (x : X) → P x → P (fold f x ys)
folded_keeps P f keep [] x p = p
folded_keeps P f keep (y ∷ ys) x p = folded_keeps P f keep ys (f x y) (keep x y p)

-- ---- enough rounds

module _ {X : Type 0} (round : X → X) (size : X → ℕ) (bound : ℕ) (Good : X → Type 0)
    (keeps : (x : X) → Good x → Good (round x)) (below : (x : X) → Good x → size x ≤ bound)
    (grows : (x : X) → Good x → Up size x (round x)) where
  pub iter_fixpoint : (n : ℕ) (x : X) → Good x → bound ≤ n + size x → round (iter n round x) ≡ iter n round x
  unfolding iter
  iter_fixpoint zero x g h = ⊎_elim (λ e. e) (λ l. absurd (omega (arith, below (round x) (keeps x g)))) (grows x g)
  iter_fixpoint (suc n) x g h =
      ⊎_elim (λ e. ap round (iter_rests round (suc n) x e) ∙ e ∙ sym (iter_rests round (suc n) x e))
      (λ l. iter_fixpoint n (round x) (keeps x g) (omega arith))
      (grows x g)

-- ---- a run that stops at the first round that changes nothing

pub reached_none : {X : Type 0} (round : X → X) (size : X → ℕ) (x : X) → Reached round size x x
unfolding iter
reached_none round size x = record { rounds = 0; is = refl; paid = omega arith }

pub reached_more : {X : Type 0} {round : X → X} {size : X → ℕ} {x y : X} → Reached round size x y → (z : X) → z ≡ round y → size y < size z → Reached round size x z
unfolding iter
reached_more {round} {size} {x} {y} r z e h =
    record {
      rounds = r.rounds + 1;
      is = e ∙ ap round r.is ∙ sym (iter_last round r.rounds x) ∙ ap (λ k. iter k round x) (sym (add-one r.rounds));
      paid = omega (arith, r.paid);
    }

pub reached_rest : {X : Type 0} {round : X → X} {size : X → ℕ} {x y : X} → Reached round size x y → round y ≡ y → (n : ℕ) → size y ≤ n → y ≡ iter n round x
reached_rest {round} {size} {x} {y} r e n h =
    let k : n ≡ r.rounds + (n - r.rounds) = omega (arith, r.paid) in
    sym (ap (λ k. iter k round x) k ∙ iter_plus round r.rounds (n - r.rounds) x
    ∙ ap (iter (n - r.rounds) round) (sym r.is) ∙ iter_rests round (n - r.rounds) y e)

-- ---- steps that change nothing or enlarge

module _ {X : Type 0} (size : X → ℕ) where
  pub up_then : (a b c : X) → Up size a b → Up size b c → Up size a c
  up_then a b c (inl p) (inl q) = inl (q ∙ p)
  up_then a b c (inl p) (inr q) = inr (omega (arith, ap size p))
  up_then a b c (inr p) (inl q) = inr (omega (arith, ap size q))
  up_then a b c (inr p) (inr q) = inr (omega arith)

  -- where two steps come back to the start, the first changed nothing
  pub up_back : (a b c : X) → Up size a b → Up size b c → c ≡ a → b ≡ a
  up_back a b c (inl e) k q = e
  up_back a b c (inr l) (inl e) q = sym e ∙ q
  up_back a b c (inr l) (inr k) q = absurd (omega (arith, ap size q))

  -- a step that does not leave it as it is enlarges it
  pub up_changed : (a b c : X) → Up size a b → c ≡ b → (c ≡ a → ⊥) → size a < size c
  up_changed a b c u e n = ⊎_elim (λ p. absurd (n (e ∙ p))) (λ l. omega (arith, ap size e)) u

  module _ (f : ℕ → X → X) (up : (k : ℕ) (x : X) → Up size x (f k x)) where
    pub up_counted : (n : ℕ) (x : X) → Up size x (counted n f x)
    unfolding counted
    up_counted zero x = inl refl
    up_counted (suc n) x = up_then x (counted n f x) (f n (counted n f x)) (up_counted n x) (up n (counted n f x))

    pub counted_rest : (n : ℕ) (x : X) → counted n f x ≡ x → (k : ℕ) → k < n → f k x ≡ x
    unfolding counted
    counted_rest zero x e k l = absurd (omega arith)
    counted_rest (suc n) x e k l =
        let y = up_back x (counted n f x) (f n (counted n f x)) (up_counted n x) (up n (counted n f x)) e in
        ⊎_elim (λ i. ap (λ k. f k x) i ∙ ap (f n) (sym y) ∙ e) (λ i. counted_rest n x y k (omega arith)) (cases_eq k n)

  module _ {Y : Type 0} (f : X → Y → X) (up : (x : X) (y : Y) → Up size x (f x y)) where
    pub up_folded : (ys : List Y) (x : X) → Up size x (fold f x ys)
    up_folded [] x = inl refl
    up_folded (y ∷ ys) x = up_then x (f x y) (fold f (f x y) ys) (up x y) (up_folded ys (f x y))

    pub folded_rest : (ys : List Y) (x : X) → fold f x ys ≡ x → (d : Y) (k : ℕ) → k < length ys → f x (get_or ys k d) ≡ x
    folded_rest [] x e d k l = absurd (omega arith)
    folded_rest (y ∷ ys) x e d zero l = up_back x (f x y) (fold f (f x y) ys) (up x y) (up_folded ys (f x y)) e
    folded_rest (y ∷ ys) x e d (suc k) l =
        let q = up_back x (f x y) (fold f (f x y) ys) (up x y) (up_folded ys (f x y)) e in
        folded_rest ys x (ap (λ z. fold f z ys) (sym q) ∙ e) d k (omega arith)

-- ---- the answers of such steps

pub grew_none : {X : Type 0} (size : X → ℕ) (x : X) → Grew size x x false
grew_none size x = record { more = λ e. absurd (false≢true e); same = λ _. refl }

pub grew_then : {X : Type 0} {size : X → ℕ} {a b c : X} {r q : Bool} → Grew size a b r → Grew size b c q → Grew size a c (r || q)
grew_then {r = false} {q = false} h k = record { more = λ e. absurd (false≢true e); same = λ _. k.same refl ∙ h.same refl }
grew_then {size = size} {a = a} {r = true} {q = false} h k =
    record { more = λ e. subst (λ z. size a < size z) (sym (k.same refl)) (h.more refl); same = λ e. absurd (true≢false e) }
grew_then {size = size} {c = c} {r = false} {q = true} h k =
    record { more = λ e. subst (λ z. size z < size c) (h.same refl) (k.more refl); same = λ e. absurd (true≢false e) }
grew_then {r = true} {q = true} h k = record { more = λ e. omega (arith, h.more refl, k.more refl); same = λ e. absurd (true≢false e) }
