-- How many sets there are is one number, and there are at least so many just if it is not less.
use Rattle.std.proofs.Common.{◌≡◌, ℕ, zero, suc, ◌<◌, ◌≤◌, List, [], ◌∷◌, length, refl, ap, arith}
use Rattle.grammar.specs.Grammar.{each, Sym, Grammar}
use Rattle.grammar.proofs.Spelled.{length_each}
use Rattle.parser.proofs.Pigeonhole.{NotIn, Distinct, AllBelow, pigeonhole}
use Rattle.tables.specs.Sets.{Viable, Alike, Sets, Unlike, AllUnlike, AtLeast}
use Rattle.tables.specs.Statements.{SetsOnce, AtLeastSo}

-- the numbers of rows that are not alike are distinct
module _ {g : Grammar} {m : ℕ} (S : Sets g m) where
  numbers_below : (fs : List (List Sym)) → AllUnlike g fs → AllBelow m (each S.number fs)
  unfolding AllUnlike each
  numbers_below [] u = tt
  numbers_below (f ∷ fs) u = (S.below f u.0, numbers_below fs u.2)

  number_new : (f : List Sym) (fs : List (List Sym)) → Viable g f → Unlike g f fs → AllUnlike g fs → NotIn (S.number f) (each S.number fs)
  unfolding AllUnlike Unlike each
  number_new f [] v u a = tt
  number_new f (h ∷ fs) v u a = (λ e. u.0 (S.alike f h v a.0 e), number_new f fs v u.1 a.2)

  numbers_distinct : (fs : List (List Sym)) → AllUnlike g fs → Distinct (each S.number fs)
  unfolding AllUnlike each
  numbers_distinct [] u = tt
  numbers_distinct (f ∷ fs) u = (number_new f fs u.0 u.1 u.2, numbers_distinct fs u.2)

  at_most : (n : ℕ) → AtLeast g n → n ≤ m
  unfolding AtLeast
  at_most n (fs, l, u) =
      let h = pigeonhole m (each S.number fs) (numbers_distinct fs u) (numbers_below fs u) in omega (arith, h, l, length_each S.number fs)

-- a numbering by which what is alike has one number, and each number below m is used
module _ {g : Grammar} (m : ℕ) (number : List Sym → ℕ) (used : (k : ℕ) → k < m → (f : List Sym) × Viable g f × (number f ≡ k))
    (one : (f h : List Sym) → Viable g f → Viable g h → Alike g f h → number f ≡ number h) where
  -- rows with the numbers below n
  record Numbered (n : ℕ) : Type 0 where
    pub rows : List (List Sym)
    pub many : length rows ≡ n
    pub unlike : AllUnlike g rows
    pub new : (f : List Sym) → Viable g f → n ≤ number f → Unlike g f rows

  numbered : (n : ℕ) → n ≤ m → Numbered n
  unfolding AllUnlike Unlike
  numbered zero h = record { rows = []; many = refl; unlike = tt; new = λ f v k. tt }
  numbered (suc n) h =
      let u = used n (omega arith) in
      let i = numbered n (omega arith) in
      let k : n ≤ number u.0 = omega (arith, u.2) in
      record {
        rows = u.0 ∷ i.rows;
        many = ap suc i.many;
        unlike = (u.1, i.new u.0 u.1 k, i.unlike);
        new = λ f v k. (λ a. let e = one f u.0 v u.1 a in absurd (omega (arith, e, u.2, k)), i.new f v (omega arith));
      }

  pub at_least_numbered : (n : ℕ) → n ≤ m → AtLeast g n
  unfolding AtLeast
  at_least_numbered n h = let i = numbered n h in (i.rows, i.many, i.unlike)

pub at_least_so_lem : AtLeastSo
unfolding AtLeastSo
at_least_so_lem g n m S = (λ a. at_most S n a, λ h. at_least_numbered m S.number S.used S.one n h)

pub sets_once_lem : SetsOnce
unfolding SetsOnce AtLeastSo
sets_once_lem g n m S R =
    let a = at_most R n ((at_least_so_lem g n n S).1 (omega arith)) in
    let b = at_most S m ((at_least_so_lem g m m R).1 (omega arith)) in
    omega (arith, a, b)
