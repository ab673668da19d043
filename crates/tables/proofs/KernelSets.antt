-- Kernels tell item sets apart: behind two viable stacks are the same items just if their kernels are equal.
--     kernel_over, over_kernel      the kernel of a stack has what stood before its top, and nothing else
--     same_kernel, kernel_same      equal kernels, the same items
--     due_some, some_due            a kernel over a symbol has items just if the symbol is next in some item
use Rattle.std.proofs.Common.{◌≡◌, ℕ, zero, suc, ◌+◌, ◌<◌, ◌≤◌, Bool, true, false, eqb, ltb, leb, ◌⊎◌, List, [], ◌∷◌, length, get_or, sym, refl, ap, ◌∙◌, subst, subst₂, inl, inr, arith, length-append, ext_get_or}
use Rattle.std.proofs.lemmas.Bool.{and_parts, and_cases, cases_Bool, eqb-true, eqb-false, leb-true, ltb-true, le-leb, lt-leb}
use Rattle.words.specs.Bits.{has_bit}
use Rattle.words.proofs.BitLaws.{has_bit_ext, has_nonzero, nonzero_has}
use Rattle.grammar.specs.Grammar.{pick, every, Sym, sign, name, Grammar, rule, sym_fits, a_grammar, AllUseful}
use Rattle.grammar.specs.Spelling.{sym_spelled}
use Rattle.grammar.specs.Places.{rest, owner, next_code, At}
use Rattle.grammar.proofs.Lists.{never}
use Rattle.grammar.proofs.Sizes.{sizes}
use Rattle.grammar.proofs.Places.{place_next, place_once, places_bound, rest_fits}
use Rattle.items.specs.Items.{Valid, start, advance}
use Rattle.items.specs.Sets.{stackable, closure, advanced_set, goto, start_set, set_of, IsItemSet}
use Rattle.items.proofs.Items.{Due, done_part}
use Rattle.items.proofs.Fits.{stack_fits}
use Rattle.items.proofs.StackSymbols.{all_stackable}
use Rattle.items.proofs.AdvancedSets.{next_from_code, advanced_shape, advanced_cases, advanced_word}
use Rattle.items.proofs.SetsSound.{kernel_shape, set_shape, set_sound}
use Rattle.items.proofs.SetsComplete.{place_of_valid, set_complete}
use Rattle.parser.proofs.Reached.{SomeItem}
use Rattle.tables.specs.ByTable.{column}
use Rattle.tables.specs.Making.{kernel_of, is_empty, column_code}
use Rattle.tables.proofs.Standing.{SameItems}
use Rattle.tables.proofs.Kernels.{came_over, first_not_begun}

-- ---- rows of words

bool_same : (a b : Bool) → (a ≡ true → b ≡ true) → (b ≡ true → a ≡ true) → a ≡ b
bool_same true b f h = sym (f refl)
bool_same false true f h = h refl
bool_same false false f h = refl

item_set_same : {g : Grammar} {a b : List ℕ} → IsItemSet g a → IsItemSet g b → ((q t : ℕ) → has_bit t (get_or a q 0) ≡ true → has_bit t (get_or b q 0) ≡ true) →
    ((q t : ℕ) → has_bit t (get_or b q 0) ≡ true → has_bit t (get_or a q 0) ≡ true) → a ≡ b
item_set_same {g} {a} {b} i j f h =
    ext_get_or 0 a b (i.long ∙ sym j.long)
    (λ q _. has_bit_ext 25 (get_or a q 0) (get_or b q 0) (i.fits q) (j.fits q) (λ t _. bool_same _ _ (f q t) (h q t)))

empty_zero : (k : List ℕ) → is_empty k ≡ true → (q : ℕ) → get_or k q 0 ≡ 0
unfolding every
empty_zero [] h q = refl
empty_zero (w ∷ k) h zero = eqb-true w 0 (and_parts (eqb w 0) (is_empty k) h).0
empty_zero (w ∷ k) h (suc q) = empty_zero k (and_parts (eqb w 0) (is_empty k) h).1 q

bit_not_empty : (k : List ℕ) (q t : ℕ) → has_bit t (get_or k q 0) ≡ true → is_empty k ≡ false
bit_not_empty k q t h = elim (cases_Bool (is_empty k)) [
  | inl e ↦ absurd (has_nonzero (get_or k q 0) t h (empty_zero k e q))
  | inr e ↦ e
]

not_empty_bit : (k : List ℕ) → is_empty k ≡ false → (q : ℕ) × (t : ℕ) × (has_bit t (get_or k q 0) ≡ true)
unfolding every
not_empty_bit [] h = never (cc)
not_empty_bit (w ∷ k) h = go (and_cases (eqb w 0) (is_empty k) h) (not_empty_bit k)
  where
    go : (eqb w 0 ≡ false) ⊎ (is_empty k ≡ false) → (is_empty k ≡ false → (q : ℕ) × (t : ℕ) × (has_bit t (get_or k q 0) ≡ true)) →
        (q : ℕ) × (t : ℕ) × (has_bit t (get_or (w ∷ k) q 0) ≡ true)
    go (inl e) ih = let b = nonzero_has w (eqb-false w 0 e) in (0, b.0, b.1)
    go (inr e) ih = let b = ih e in (suc b.0, b.1, b.2)

-- ---- columns

pub column_low : (c : ℕ) → c ≤ 24 → column_code c ≡ c
column_low c h = rw (le-leb c 24 h)

pub column_high : (n : ℕ) → 1 ≤ n → column_code (24 + n) ≡ 32 + n
column_high n h = let e : 24 + n + 8 ≡ 32 + n = omega arith in rw (lt-leb (24 + n) 24 (omega arith), e)

column_below : (c : ℕ) → c < 56 → column_code c < 64
column_below c h = go (leb c 24) refl
  where
    go : (b : Bool) → leb c 24 ≡ b → pick b c (c + 8) < 64
    go true e = omega arith
    go false e = omega arith

-- the column of a symbol that fits has its byte
pub column_fits : (x : Sym) → sym_fits x ≡ true → (column x < 56) × (column_code (column x) ≡ sym_spelled x)
unfolding sym_fits sym_spelled
column_fits (sign t) h = let k = ltb-true t 24 h in (omega arith, column_low t (omega arith))
column_fits (name n) h =
    let k = and_parts (leb 1 n) (ltb n 32) h in
    let l = ltb-true n 32 k.1 in
    (omega arith, column_high n (leb-true 1 n k.0))

-- ---- kernels and items

pub set_of_kernel : (g : Grammar) (γ : List Sym) → set_of g γ ≡ closure g (kernel_of g γ)
unfolding set_of start_set goto kernel_of
set_of_kernel g [] = refl
set_of_kernel g (x ∷ γ) = refl

module _ (g : Grammar) (fits : a_grammar g ≡ true) (useful : AllUseful g) where
  pub stackable_so : {γ : List Sym} → SomeItem g γ → every stackable γ ≡ true
  stackable_so {γ} i = all_stackable γ (stack_fits g (sizes g fits) i.3)

  kernel_items : (γ : List Sym) → every stackable γ ≡ true → IsItemSet g (kernel_of g γ)
  unfolding kernel_of every
  kernel_items [] h = kernel_shape g fits
  kernel_items (x ∷ γ) h =
      let k = and_parts (stackable x) (every stackable γ) h in
      advanced_shape g fits x k.0 (set_of g γ) (set_shape g fits γ k.1)

  pub kernel_over : (x : Sym) (γ : List Sym) → every stackable (x ∷ γ) ≡ true → (q t : ℕ) → has_bit t (get_or (kernel_of g (x ∷ γ)) q 0) ≡ true →
      (r : ℕ) × (β : List Sym) × At g q r β × Valid g γ r (x ∷ β) t
  unfolding kernel_of every
  kernel_over x γ h q t b =
      let k = and_parts (stackable x) (every stackable γ) h in
      let c = advanced_cases g (sym_spelled x) (set_of g γ) q t b in
      let n = next_from_code x (rest g c.place) k.0 (rest_fits g c.place fits) c.next in
      let v = set_sound g fits useful γ k.1 c.place t c.bit in (
        owner g c.place,
        n.0,
        subst (λ z. At g z (owner g c.place) n.0) (sym c.one_on) (place_next g c.place x n.0 n.1),
        subst (λ δ. Valid g γ (owner g c.place) δ t) n.1 v,
      )

  pub over_kernel : (x : Sym) (γ : List Sym) {r : ℕ} {β : List Sym} {t : ℕ} → Valid g γ r (x ∷ β) t → (q : ℕ) → At g q r β →
      has_bit t (get_or (kernel_of g (x ∷ γ)) q 0) ≡ true
  unfolding kernel_of next_code
  over_kernel x γ {r} {β} {t} v q a =
      let b = place_of_valid g fits v in
      let on = place_next g b.0 x β b.1.rests in
      let e : q ≡ suc b.0 = place_once g q (suc b.0) a.within on.within (a.owned ∙ sym (on.owned ∙ b.1.owned)) (a.rests ∙ sym on.rests) in
      let within : suc b.0 < 192 = omega (arith, on.within, places_bound g fits) in
      let word = advanced_word g (sym_spelled x) (set_of g γ) b.0 b.1.within (ap next_code b.1.rests) within in
      ap (λ k. has_bit t (get_or (advanced_set g (sym_spelled x) (set_of g γ)) k 0)) e ∙ ap (has_bit t) word
      ∙ set_complete g fits γ (all_stackable γ (stack_fits g (sizes g fits) v)) r (x ∷ β) t v b.0 b.1

  pub same_kernel : (γ δ : List Sym) → SomeItem g δ → kernel_of g γ ≡ kernel_of g δ → SameItems g γ δ
  same_kernel γ δ j e r β t v =
      let p = place_of_valid g fits v in
      let s : set_of g γ ≡ set_of g δ = set_of_kernel g γ ∙ ap (closure g) e ∙ sym (set_of_kernel g δ) in
      let b = set_complete g fits γ (stackable_so (r, β, t, v)) r β t v p.0 p.1 in
      let w = set_sound g fits useful δ (stackable_so j) p.0 t (ap (λ z. has_bit t (get_or z p.0 0)) (sym s) ∙ b) in
      subst₂ (λ i k. Valid g δ i k t) p.1.owned p.1.rests w

  bit_over : (x : Sym) (γ : List Sym) (y : Sym) (δ : List Sym) → SomeItem g (x ∷ γ) → SameItems g (x ∷ γ) (y ∷ δ) → (q t : ℕ) →
      has_bit t (get_or (kernel_of g (x ∷ γ)) q 0) ≡ true → has_bit t (get_or (kernel_of g (y ∷ δ)) q 0) ≡ true
  bit_over x γ y δ i a q t h =
      let o = kernel_over x γ (stackable_so i) q t h in
      let r : ℕ = o.0 in
      let β : List Sym = o.1 in
      let d = done_part o.3 in
      let short : length β < length (rule g r).right = omega (arith, ap length d.1, length-append d.0 (x ∷ β)) in
      over_kernel y δ (came_over y δ refl short (a r β t (advance o.3))) q o.2

  pub kernel_same : (γ δ : List Sym) → SomeItem g γ → SomeItem g δ → SameItems g γ δ → SameItems g δ γ → kernel_of g γ ≡ kernel_of g δ
  kernel_same [] [] i j a b = refl
  kernel_same [] (y ∷ δ) i j a b = absurd (first_not_begun g (sizes g fits) y δ refl refl refl (a 0 (rule g 0).right 24 start))
  kernel_same (x ∷ γ) [] i j a b = absurd (first_not_begun g (sizes g fits) x γ refl refl refl (b 0 (rule g 0).right 24 start))
  kernel_same (x ∷ γ) (y ∷ δ) i j a b =
      item_set_same (kernel_items (x ∷ γ) (stackable_so i)) (kernel_items (y ∷ δ) (stackable_so j)) (bit_over x γ y δ i a) (bit_over y δ x γ j b)

  pub due_some : (γ : List Sym) (x : Sym) → Due g γ x → is_empty (kernel_of g (x ∷ γ)) ≡ false
  due_some γ x (r, β, t, v) =
      let p = place_of_valid g fits (advance v) in
      bit_not_empty (kernel_of g (x ∷ γ)) p.0 t (over_kernel x γ v p.0 p.1)

  pub some_due : (γ : List Sym) (c : ℕ) → SomeItem g γ → c < 56 → is_empty (advanced_set g (column_code c) (set_of g γ)) ≡ false →
      (x : Sym) × (column_code c ≡ sym_spelled x) × Due g γ x
  unfolding next_code
  some_due γ c i h e =
      let b = not_empty_bit (advanced_set g (column_code c) (set_of g γ)) e in
      let f = advanced_cases g (column_code c) (set_of g γ) b.0 b.1 b.2 in
      go (rest g f.place) f.next (set_sound g fits useful γ (stackable_so i) f.place b.1 f.bit)
    where
      go : {r t : ℕ} (δ : List Sym) → next_code δ ≡ column_code c → Valid g γ r δ t → (x : Sym) × (column_code c ≡ sym_spelled x) × Due g γ x
      go [] n v = absurd (omega (arith, n, column_below c h))
      go {r} {t} (x ∷ β) n v = (x, sym n, (r, β, t, v))
