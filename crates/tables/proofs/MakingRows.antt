-- What holds while a table is made: the kernels found are those of viable stacks, each at one number, and the entries so far are right.
--     Ways, ways_start, ways_push, ways_at_least      the kernels found
--     RightEntry, right_push                         one entry
--     Sound, InRow, column_more                      one column
use Rattle.std.proofs.Common.{◌≡◌, ℕ, zero, suc, ◌+◌, ◌*◌, ◌<◌, ◌≤◌, Bool, true, false, ◌||◌, ltb, ◌⊎◌, List, [], ◌∷◌, ◌++◌, length, get_or, sym, refl, ap, ◌∙◌, subst, inl, inr, arith, length-append}
use Rattle.std.proofs.lemmas.List.{get_or_append_left, get_or_at}
use Rattle.std.proofs.lemmas.Bool.{both_ways, or_cases, or_parts, cases_lt, ltb-true, ltb-false}
use Rattle.grammar.specs.Grammar.{pick, Sym, Grammar, rule, a_grammar, AllUseful}
use Rattle.grammar.proofs.Sizes.{sizes}
use Rattle.items.specs.Items.{onto, start, advance}
use Rattle.items.specs.Sets.{no_items, closure, advanced_set, set_of, reduce_at}
use Rattle.items.proofs.Stacks.{onto_back}
use Rattle.items.proofs.Items.{valid_rule}
use Rattle.items.proofs.ActionsExact.{reduce_sound}
use Rattle.parser.proofs.Reached.{SomeItem}
use Rattle.tables.specs.Sets.{Viable, Alike, AtLeast}
use Rattle.tables.specs.ByTable.{entry}
use Rattle.tables.specs.Making.{start_kernel, kernel_of, is_empty, index_of, Making, making, with_kernel, entry_of, column_code, with_entry, make_column}
use Rattle.tables.proofs.Standing.{alike_valid, alike_turned, viable_item, item_viable}
use Rattle.tables.proofs.Counting.{at_least_numbered}
use Rattle.tables.proofs.Indices.{index_front, index_most, index_first, index_pushed}
use Rattle.tables.proofs.KernelSets.{set_of_kernel, stackable_so, kernel_same, some_due}

-- one more at the end of a row
push_cases : {A : Type 0} (P : A → Type 0) (xs : List A) (y d : A) (i : ℕ) → i < length (xs ++ y ∷ []) → (i < length xs → P (get_or xs i d)) → (i ≡ length xs → P y) →
    P (get_or (xs ++ y ∷ []) i d)
push_cases P xs y d i h f e = elim (cases_lt i (length xs)) [
  | inl l ↦ subst P (sym (get_or_append_left xs (y ∷ []) d i l)) (f l)
  | inr l ↦
      let k : i ≡ length xs = omega (arith, length-append xs (y ∷ [])) in
      subst P (sym (get_or_at xs y [] d i (sym k))) (e k)
]

module _ (g : Grammar) (fits : a_grammar g ≡ true) (useful : AllUseful g) where
  -- ---- the kernels found

  pub record Ways (ks : List (List ℕ)) : Type 0 where
    pub first : index_of start_kernel ks ≡ 0
    pub some : 0 < length ks
    pub way : (i : ℕ) → i < length ks → (γ : List Sym) × SomeItem g γ × (kernel_of g γ ≡ get_or ks i no_items)
    pub own : (i : ℕ) → i < length ks → index_of (get_or ks i no_items) ks ≡ i

  pub ways_start : Ways (start_kernel ∷ [])
  unfolding kernel_of
  ways_start = record { first = index_first start_kernel []; some = omega arith; way = way_one; own = own_one }
    where
      way_one : (i : ℕ) → i < 1 → (γ : List Sym) × SomeItem g γ × (kernel_of g γ ≡ get_or (start_kernel ∷ []) i no_items)
      way_one zero h = ([], (0, (rule g 0).right, 24, start), refl)
      way_one (suc i) h = absurd (omega arith)

      own_one : (i : ℕ) → i < 1 → index_of (get_or (start_kernel ∷ []) i no_items) (start_kernel ∷ []) ≡ i
      own_one zero h = index_first start_kernel []
      own_one (suc i) h = absurd (omega arith)

  pub ways_push : (ks : List (List ℕ)) (k : List ℕ) (γ : List Sym) → Ways ks → SomeItem g γ → kernel_of g γ ≡ k → length ks ≤ index_of k ks → Ways (ks ++ k ∷ [])
  ways_push ks k γ w i e new =
      record {
        first = index_front start_kernel ks (k ∷ []) (omega (arith, w.first, w.some)) ∙ w.first;
        some = omega (arith, length-append ks (k ∷ []), w.some);
        way = λ j h. push_cases (λ x. (γ : List Sym) × SomeItem g γ × (kernel_of g γ ≡ x)) ks k no_items j h (w.way j) (λ _. (γ, i, e));
        own = λ j h.
            push_cases (λ x. index_of x (ks ++ k ∷ []) ≡ j) ks k no_items j h
            (λ l. index_front (get_or ks j no_items) ks (k ∷ []) (omega (arith, w.own j l)) ∙ w.own j l)
            (λ z. index_pushed k ks new ∙ sym z);
      }

  module _ (ks : List (List ℕ)) (w : Ways ks) where
    -- rows are numbered by their kernels
    abbrev pub number : List Sym → ℕ
    number f = index_of (kernel_of g (onto f [])) ks

    pub number_used : (k : ℕ) → k < length ks → (f : List Sym) × Viable g f × (number f ≡ k)
    number_used k h =
        let p = w.way k h in
        let b = onto_back p.0 in (
          onto p.0 [],
          item_viable g fits (onto p.0 []) (subst (λ γ. SomeItem g γ) (sym b) p.1),
          ap (λ γ. index_of (kernel_of g γ) ks) b ∙ ap (λ k. index_of k ks) p.2 ∙ w.own k h,
        )

    pub number_one : (f h : List Sym) → Viable g f → Viable g h → Alike g f h → number f ≡ number h
    number_one f h u v a =
        ap (λ k. index_of k ks)
        (kernel_same g fits useful (onto f []) (onto h []) (viable_item g fits f u) (viable_item g fits h v) (alike_valid g fits f h a)
        (alike_valid g fits h f (alike_turned g fits f h a)))

    pub ways_at_least : (n : ℕ) → n ≤ length ks → AtLeast g n
    ways_at_least n h = at_least_numbered (length ks) number number_used number_one n h

  -- ---- one entry

  -- the kernel over the symbol of a column
  abbrev pub over : List ℕ → ℕ → List ℕ
  over k c = advanced_set g (column_code c) (closure g k)

  pub record RightEntry (ks : List (List ℕ)) (k : List ℕ) (c e : ℕ) : Type 0 where
    pub is : e ≡ entry_of (reduce_at g (closure g k) c) (over k c) (index_of (over k c) ks)
    pub there : is_empty (over k c) ≡ false → index_of (over k c) ks < length ks

  entry_same : (rs k : List ℕ) (n m : ℕ) → (is_empty k ≡ false → n ≡ m) → entry_of rs k n ≡ entry_of rs k m
  unfolding entry_of
  entry_same (r ∷ rs) k n m f = refl
  entry_same [] k n m f = go (is_empty k) f
    where
      go : (b : Bool) → (b ≡ false → n ≡ m) → pick b 0 (65 + n) ≡ pick b 0 (65 + m)
      go true f = refl
      go false f = ap (λ i. 65 + i) (f refl)

  pub right_push : {ks : List (List ℕ)} {k : List ℕ} {c e : ℕ} → RightEntry ks k c e → (ys : List (List ℕ)) → RightEntry (ks ++ ys) k c e
  right_push {ks} {k} {c} r ys =
      record {
        is = r.is ∙ entry_same (reduce_at g (closure g k) c) (over k c) _ _ (λ z. sym (index_front (over k c) ks ys (r.there z)));
        there = λ z. omega (arith, r.there z, index_front (over k c) ks ys (r.there z), length-append ks ys);
      }

  -- ---- one column

  pub record Sound (limit : ℕ) (m : Making) : Type 0 where
    pub ways : Ways m.kernels
    pub few : length m.kernels ≤ limit
    pub short : length m.table ≤ length m.kernels * 56
    pub right : (i c : ℕ) → c < 56 → i * 56 + c < length m.table → RightEntry m.kernels (get_or m.kernels i no_items) c (entry m.table i c)
    pub small : (i : ℕ) → i < length m.table → get_or m.table i 0 < 65 + length m.kernels

  -- in row n, of the kernel k, before column c
  pub record InRow (limit n : ℕ) (k : List ℕ) (c : ℕ) (m : Making) : Type 0 where
    pub go_on : m.too_many ≡ false
    pub sound : Sound limit m
    pub row : m.rows ≡ n
    pub within : n < length m.kernels
    pub kernel : get_or m.kernels n no_items ≡ k
    pub long : length m.table ≡ n * 56 + c

  -- or given up
  abbrev pub GivenUp : ℕ → Making → Type 0
  GivenUp limit m = (m.too_many ≡ true) × AtLeast g (suc limit)

  -- the kernel k' is known, if it has items
  record With (limit n : ℕ) (k : List ℕ) (c : ℕ) (k' : List ℕ) (index : ℕ) (m : Making) : Type 0 where
    pub in_row : InRow limit n k c m
    pub same : is_empty k' ≡ false → index ≡ index_of k' m.kernels
    pub there : is_empty k' ≡ false → index_of k' m.kernels < length m.kernels

  sound_push : (limit : ℕ) (m : Making) (k : List ℕ) (γ : List Sym) → Sound limit m → SomeItem g γ → kernel_of g γ ≡ k →
      length m.kernels ≤ index_of k m.kernels → length m.kernels < limit →
      Sound limit (making (m.kernels ++ k ∷ []) m.rows m.table m.too_many)
  sound_push limit m k γ s i e new room =
      let l = length-append m.kernels (k ∷ []) in
      record {
        ways = ways_push m.kernels k γ s.ways i e new;
        few = omega (arith, l);
        short = omega (arith, l, s.short);
        right = λ j c h t.
            let low : j < length m.kernels = omega (arith, h, t, s.short) in
            subst (λ x. RightEntry (m.kernels ++ k ∷ []) x c (entry m.table j c)) (sym (get_or_append_left m.kernels (k ∷ []) no_items j low))
            (right_push (s.right j c h t) (k ∷ []));
        small = λ j h. omega (arith, l, s.small j h);
      }

  kernel_more : (limit n : ℕ) (k : List ℕ) (c : ℕ) (k' : List ℕ) (m : Making) → InRow limit n k c m →
      (is_empty k' ≡ false → (γ : List Sym) × SomeItem g γ × (kernel_of g γ ≡ k')) →
      With limit n k c k' (index_of k' m.kernels) (with_kernel limit k' m) ⊎ GivenUp limit (with_kernel limit k' m)
  unfolding with_kernel
  kernel_more limit n k c k' m r way = go (is_empty k' || ltb (index_of k' ks) (length ks)) refl
    where
      ks : List (List ℕ)
      ks = m.kernels

      pushed : Making
      pushed = making (ks ++ k' ∷ []) m.rows m.table m.too_many

      l : length (ks ++ k' ∷ []) ≡ length ks + 1
      l = length-append ks (k' ∷ [])

      put : length ks ≤ index_of k' ks → is_empty k' ≡ false → length ks < limit → With limit n k c k' (index_of k' ks) pushed
      put new some room =
          let p = way some in
          let at : index_of k' (ks ++ k' ∷ []) ≡ length ks = index_pushed k' ks new in
          record {
            in_row = record {
              go_on = r.go_on;
              sound = sound_push limit m k' p.0 r.sound p.1 p.2 new room;
              row = r.row;
              within = omega (arith, l, r.within);
              kernel = get_or_append_left ks (k' ∷ []) no_items n r.within ∙ r.kernel;
              long = r.long;
            };
            same = λ _. omega (arith, at, index_most k' ks);
            there = λ _. omega (arith, at, l);
          }

      stop : length ks ≤ index_of k' ks → is_empty k' ≡ false → limit ≤ length ks → AtLeast g (suc limit)
      stop new some none =
          let p = way some in
          ways_at_least (ks ++ k' ∷ []) (ways_push ks k' p.0 r.sound.ways p.1 p.2 new) (suc limit) (omega (arith, l))

      room_or : (b : Bool) → ltb (length ks) limit ≡ b → length ks ≤ index_of k' ks → is_empty k' ≡ false →
          With limit n k c k' (index_of k' ks) (pick b pushed (making ks m.rows m.table true))
          ⊎ GivenUp limit (pick b pushed (making ks m.rows m.table true))
      room_or true e new some = inl (put new some (ltb-true (length ks) limit e))
      room_or false e new some = inr (refl, stop new some (ltb-false (length ks) limit e))

      go : (b : Bool) → (is_empty k' || ltb (index_of k' ks) (length ks)) ≡ b →
          With limit n k c k' (index_of k' ks) (pick b m (pick (ltb (length ks) limit) pushed (making ks m.rows m.table true)))
          ⊎ GivenUp limit (pick b m (pick (ltb (length ks) limit) pushed (making ks m.rows m.table true)))
      go true e =
          inl (record {
            in_row = r;
            same = λ _. refl;
            there = λ some. elim (or_cases (is_empty k') (ltb (index_of k' ks) (length ks)) e) [
              | inl z ↦ absurd (both_ways _ some z)
              | inr z ↦ ltb-true (index_of k' ks) (length ks) z
            ];
          })
      go false e =
          let p = or_parts (is_empty k') (ltb (index_of k' ks) (length ks)) e in
          room_or (ltb (length ks) limit) refl (ltb-false (index_of k' ks) (length ks) p.1) p.0

  entry_more : (limit n : ℕ) (k : List ℕ) (c e : ℕ) (m : Making) → InRow limit n k c m → c < 56 → RightEntry m.kernels k c e → e < 65 + length m.kernels →
      InRow limit n k (suc c) (with_entry e m)
  entry_more limit n k c e m r h right low =
      let l : length (m.table ++ e ∷ []) ≡ length m.table + 1 = length-append m.table (e ∷ []) in
      record {
        go_on = r.go_on;
        sound = record {
          ways = r.sound.ways;
          few = r.sound.few;
          short = omega (arith, l, r.long, r.within);
          right = λ i c₁ h₁ t.
              push_cases (λ x. RightEntry m.kernels (get_or m.kernels i no_items) c₁ x) m.table e 0 (i * 56 + c₁) t (r.sound.right i c₁ h₁)
              (λ z.
              let ei : i ≡ n = omega (arith, z, r.long) in
              let ec : c₁ ≡ c = omega (arith, z, r.long, ei) in
              let ek : get_or m.kernels i no_items ≡ k = ap (λ j. get_or m.kernels j no_items) ei ∙ r.kernel in
              subst (λ x. RightEntry m.kernels x c₁ e) (sym ek) (subst (λ x. RightEntry m.kernels k x e) (sym ec) right));
          small = λ i t. push_cases (λ x. x < 65 + length m.kernels) m.table e 0 i t (r.sound.small i) (λ _. low);
        };
        row = r.row;
        within = r.within;
        kernel = r.kernel;
        long = omega (arith, l, r.long);
      }

  entry_low : (rs k : List ℕ) (i n : ℕ) → ((r : ℕ) (qs : List ℕ) → rs ≡ r ∷ qs → r < 64) → (is_empty k ≡ false → i < n) → entry_of rs k i < 65 + n
  unfolding entry_of
  entry_low (r ∷ rs) k i n f h = omega (arith, f r rs refl)
  entry_low [] k i n f h = go (is_empty k) h
    where
      go : (b : Bool) → (b ≡ false → i < n) → pick b 0 (65 + i) < 65 + n
      go true h = omega arith
      go false h = omega (arith, h refl)

  -- the kernel over a symbol, if it has items, is that of a viable stack
  way_over : (γ : List Sym) (k : List ℕ) (c : ℕ) → SomeItem g γ → kernel_of g γ ≡ k → c < 56 → is_empty (over k c) ≡ false →
      (δ : List Sym) × SomeItem g δ × (kernel_of g δ ≡ over k c)
  unfolding kernel_of
  way_over γ k c i e h some =
      let s : closure g k ≡ set_of g γ = ap (closure g) (sym e) ∙ sym (set_of_kernel g γ) in
      let p = some_due g fits useful γ c i h (ap (λ z. is_empty (advanced_set g (column_code c) z)) (sym s) ∙ some) in
      let d = p.2 in
      (p.0 ∷ γ, (d.0, d.1, d.2, advance d.3), ap (λ b. advanced_set g b (set_of g γ)) (sym p.1) ∙ ap (advanced_set g (column_code c)) (sym s))

  rules_low : (γ : List Sym) (k : List ℕ) (c : ℕ) → SomeItem g γ → kernel_of g γ ≡ k → (r : ℕ) (qs : List ℕ) → reduce_at g (closure g k) c ≡ r ∷ qs → r < 64
  rules_low γ k c i e r qs f =
      let s : closure g k ≡ set_of g γ = ap (closure g) (sym e) ∙ sym (set_of_kernel g γ) in
      let v = reduce_sound g fits useful γ (stackable_so g fits useful i) c r qs (ap (λ z. reduce_at g z c) (sym s) ∙ f) in
      omega (arith, valid_rule (sizes g fits).rules v, (sizes g fits).many)

  pub column_more : (limit n : ℕ) (k : List ℕ) (c : ℕ) (m : Making) → InRow limit n k c m → c < 56 →
      InRow limit n k (suc c) (make_column g limit (closure g k) c m) ⊎ GivenUp limit (make_column g limit (closure g k) c m)
  column_more limit n k c m r h =
      let p = r.sound.ways.way n r.within in
      let e = p.2 ∙ r.kernel in
      go (kernel_more limit n k c (over k c) m r (way_over p.0 k c p.1 e h)) (rules_low p.0 k c p.1 e)
    where
      i : ℕ
      i = index_of (over k c) m.kernels

      rs : List ℕ
      rs = reduce_at g (closure g k) c

      m₁ : Making
      m₁ = with_kernel limit (over k c) m

      go : With limit n k c (over k c) i m₁ ⊎ GivenUp limit m₁ → ((r : ℕ) (qs : List ℕ) → rs ≡ r ∷ qs → r < 64) →
          InRow limit n k (suc c) (with_entry (entry_of rs (over k c) i) m₁) ⊎ GivenUp limit (with_entry (entry_of rs (over k c) i) m₁)
      go (inl w) low =
          let right : RightEntry m₁.kernels k c (entry_of rs (over k c) i) = record { is = entry_same rs (over k c) _ _ w.same; there = w.there } in
          inl (entry_more limit n k c (entry_of rs (over k c) i) m₁ w.in_row h right
          (entry_low rs (over k c) i (length m₁.kernels) low (λ z. omega (arith, w.same z, w.there z))))
      go (inr u) low = inr u
