-- Places by number: every item has one place, the next place is behind the next symbol, and how many there are.
-- place_of: an item's place.       place-next: one symbol on.       place-parts: a place's item.      place-once: no two places for one item.
-- places-bound: at most 192.       code_sign, code_name, code-complete: what a place's byte says.
use Rattle.std.proofs.Common.{◌≡◌, ℕ, zero, suc, ◌+◌, ◌-◌, ◌<◌, ◌≤◌, Bool, true, ◌&&◌, ltb, leb, ◌⊎◌, List, [], ◌∷◌, ◌++◌, length, take, drop, sym, refl, ap, ◌∙◌, subst, inl, inr, arith, length-append, take-append-drop, length-take-le, drop_at}
use Rattle.std.proofs.lemmas.Bool.{and_parts, cases_lt, le-leb, lt-leb, leb-true, ltb-true}
use Rattle.grammar.specs.Grammar.{every, added_up, Sym, sign, name, Rule, Grammar, rule, sym_fits, a_grammar}
use Rattle.grammar.specs.Spelling.{sym_spelled}
use Rattle.grammar.specs.Places.{places, rest, owner, first_place_lem, next_code, At, Parts}
use Rattle.grammar.proofs.Lists.{never, every_parts}
use Rattle.grammar.proofs.Sizes.{sizes, symbol_count, all_fit}

-- a place is in the first rule, or behind it
pub rest_here : (r : Rule) (rs : Grammar) (p : ℕ) → p ≤ length r.right → rest (r ∷ rs) p ≡ drop p r.right
unfolding rest
rest_here r rs p h = rw (le-leb p (length r.right) h)

pub owner_here : (r : Rule) (rs : Grammar) (p : ℕ) → p ≤ length r.right → owner (r ∷ rs) p ≡ 0
unfolding owner
owner_here r rs p h = rw (le-leb p (length r.right) h)

pub rest_later : (r : Rule) (rs : Grammar) (p : ℕ) → rest (r ∷ rs) (suc (length r.right) + p) ≡ rest rs p
unfolding rest
rest_later r rs p =
    let h : length r.right < suc (length r.right) + p = omega arith in
    let e : suc (length r.right) + p - suc (length r.right) ≡ p = omega arith in
    rw (lt-leb (suc (length r.right) + p) (length r.right) h, e)

pub owner_later : (r : Rule) (rs : Grammar) (p : ℕ) → owner (r ∷ rs) (suc (length r.right) + p) ≡ suc (owner rs p)
unfolding owner
owner_later r rs p =
    let h : length r.right < suc (length r.right) + p = omega arith in
    let e : suc (length r.right) + p - suc (length r.right) ≡ p = omega arith in
    rw (lt-leb (suc (length r.right) + p) (length r.right) h, e)

-- cases on where a place is
pub here_or_later : (n p : ℕ) → (p ≤ n) ⊎ ((q : ℕ) × (p ≡ suc n + q))
here_or_later n p =
    elim (cases_lt n p) [ inl h ↦ inr (p - suc n, omega arith) | inr h ↦ inl h ]

at_later : {r : Rule} {rs : Grammar} {p k : ℕ} {β : List Sym} → At rs p k β → At (r ∷ rs) (suc (length r.right) + p) (suc k) β
unfolding places
at_later {r} {rs} {p} a =
    record { rests = rest_later r rs p ∙ a.rests; owned = owner_later r rs p ∙ ap suc a.owned; within = omega (arith, a.within) }

-- every item has a place
pub place_of : (g : Grammar) (r : ℕ) (d β : List Sym) → r < length g → (rule g r).right ≡ d ++ β → At g (first_place_lem g r + length d) r β
unfolding rule first_place_lem places
place_of [] r d β h e = absurd (omega arith)
place_of (q ∷ g) zero d β h e =
    let z : 0 + length d ≡ length d = omega arith in
    let l : length q.right ≡ length d + length β = ap length e ∙ length-append d β in
    let k : length d ≤ length q.right = omega arith in
    rw z (record {
      rests = rest_here q g (length d) k ∙ ap (drop (length d)) e ∙ drop_at d β (length d) refl;
      owned = owner_here q g (length d) k;
      within = omega arith;
    })
place_of (q ∷ g) (suc r) d β h e =
    let k : r < length g = omega arith in
    let z : suc (length q.right) + first_place_lem g r + length d ≡ suc (length q.right) + (first_place_lem g r + length d) = omega arith in
    rw z (at_later (place_of g r d β k e))

pub place_first : (g : Grammar) (r : ℕ) → r < length g → At g (first_place_lem g r) r (rule g r).right
place_first g r h =
    let z : first_place_lem g r + 0 ≡ first_place_lem g r = omega arith in
    subst (λ p. At g p r (rule g r).right) z (place_of g r [] (rule g r).right h refl)

-- the first place of all
pub place_zero : (g : Grammar) → a_grammar g ≡ true → At g 0 0 (rule g 0).right
unfolding first_place_lem
place_zero [] h = absurd (omega (arith, (sizes [] h).rules))
place_zero (r ∷ g) h = place_first (r ∷ g) 0 (omega arith)

-- one symbol on
drop_next : {A : Type 0} (p : ℕ) (xs : List A) (x : A) (β : List A) → drop p xs ≡ x ∷ β → (drop (suc p) xs ≡ β) × (p < length xs)
drop_next zero [] x β e = never (cc)
drop_next zero (y ∷ xs) x β e = (cc, omega arith)
drop_next (suc p) [] x β e = never (cc)
drop_next (suc p) (y ∷ xs) x β e = let t = drop_next p xs x β e in (t.0, omega (arith, t.1))

pub place_next : (g : Grammar) (p : ℕ) (x : Sym) (β : List Sym) → rest g p ≡ x ∷ β → At g (suc p) (owner g p) β
unfolding rest places
place_next [] p x β e = never (cc)
place_next (r ∷ g) p x β e =
    elim (here_or_later (length r.right) p) [
      | inl h ↦
          let t = drop_next p r.right x β (sym (rest_here r g p h) ∙ e) in
          let k : suc p ≤ length r.right = omega (arith, t.1) in
          record { rests = rest_here r g (suc p) k ∙ t.0; owned = owner_here r g (suc p) k ∙ sym (owner_here r g p h); within = omega arith }
      | inr (q, h) ↦
          let n = suc (length r.right) in
          let t = place_next g q x β (sym (rest_later r g q) ∙ ap (rest (r ∷ g)) (sym h) ∙ e) in
          let z : suc p ≡ n + suc q = omega arith in
          let o : owner (r ∷ g) p ≡ suc (owner g q) = ap (owner (r ∷ g)) h ∙ owner_later r g q in
          rw (z, o) (at_later t)
    ]

-- what is done at a place, and in which rule
pub place_parts : (g : Grammar) (p : ℕ) → p < places g → Parts g p
unfolding places rule first_place_lem
place_parts [] p h = absurd (omega arith)
place_parts (r ∷ g) p h =
    elim (here_or_later (length r.right) p) [
      | inl k ↦
          let o : owner (r ∷ g) p ≡ 0 = owner_here r g p k in
          let l = length-take-le p r.right k in
          record {
            done = take p r.right;
            whole = ap (λ j. (rule (r ∷ g) j).right) o ∙ (sym (take-append-drop p r.right) ∙ ap (λ β. take p r.right ++ β) (sym (rest_here r g p k)));
            number = rw o (omega (arith, l));
            owner_within = rw o (omega arith);
          }
      | inr (q, k) ↦
          let within : q < places g = omega arith in
          let t = place_parts g q within in
          let o : owner (r ∷ g) p ≡ suc (owner g q) = ap (owner (r ∷ g)) k ∙ owner_later r g q in
          let b : rest (r ∷ g) p ≡ rest g q = ap (rest (r ∷ g)) k ∙ rest_later r g q in
          record {
            done = t.done;
            whole = rw (o, b) t.whole;
            number = rw o (omega (arith, t.number));
            owner_within = rw o (omega (arith, t.owner_within));
          }
    ]

-- where the rules begin and end: behind each comes the next, and behind the last no place
first_place_zero : (g : Grammar) → first_place_lem g 0 ≡ 0
unfolding first_place_lem
first_place_zero [] = refl
first_place_zero (r ∷ rs) = refl

pub first_place_next : (g : Grammar) (k : ℕ) → k < length g → first_place_lem g (suc k) ≡ first_place_lem g k + suc (length (rule g k).right)
unfolding first_place_lem rule
first_place_next [] k h = absurd (omega arith)
first_place_next (r ∷ rs) zero h = omega (arith, first_place_zero rs)
first_place_next (r ∷ rs) (suc k) h = omega (arith, first_place_next rs k (omega arith))

pub first_place_all : (g : Grammar) → first_place_lem g (length g) ≡ places g
unfolding first_place_lem places
first_place_all [] = refl
first_place_all (r ∷ rs) = ap (λ n. suc (length r.right) + n) (first_place_all rs)

pub place_end : (g : Grammar) (p : ℕ) → p < places g → first_place_lem g (suc (owner g p)) ≡ suc (p + length (rest g p))
place_end g p h =
    let t = place_parts g p h in
    omega (arith, first_place_next g (owner g p) t.owner_within, t.number, ap length t.whole, length-append t.done (rest g p))

first_place_within : (g : Grammar) (k : ℕ) → k < length g → first_place_lem g (suc k) ≤ places g
unfolding first_place_lem places
first_place_within [] k h = absurd (omega arith)
first_place_within (r ∷ rs) zero h = omega (arith, first_place_zero rs)
first_place_within (r ∷ rs) (suc k) h = omega (arith, first_place_within rs k (omega arith))

pub rest_within : (g : Grammar) (p : ℕ) → p < places g → p + length (rest g p) < places g
rest_within g p h = omega (arith, place_end g p h, first_place_within g (owner g p) (place_parts g p h).owner_within)

pub place_once : (g : Grammar) (p q : ℕ) → p < places g → q < places g → owner g p ≡ owner g q → rest g p ≡ rest g q → p ≡ q
place_once g p q h k o e =
    let s = place_parts g p h in
    let t = place_parts g q k in
    let d : s.done ++ rest g p ≡ t.done ++ rest g q = sym s.whole ∙ ap (λ j. (rule g j).right) o ∙ t.whole in
    omega (arith, s.number, t.number, ap length d, length-append s.done (rest g p), length-append t.done (rest g q), ap length e, ap (first_place_lem g) o)

-- how many there are
places_sum : (g : Grammar) → places g ≡ length g + symbol_count g
unfolding places added_up
places_sum [] = refl
places_sum (r ∷ g) = omega (arith, places_sum g)

pub places_bound : (g : Grammar) → a_grammar g ≡ true → places g ≤ 192
places_bound g h = let s = sizes g h in omega (arith, places_sum g, s.many, s.few)

-- the symbols at places fit
pub every_drop : {A : Type 0} (f : A → Bool) (p : ℕ) (xs : List A) → every f xs ≡ true → every f (drop p xs) ≡ true
every_drop f p xs h = (every_parts f (take p xs) (drop p xs) (ap (every f) (take-append-drop p xs) ∙ h)).1

rest_fit : (g : Grammar) (p : ℕ) → all_fit g ≡ true → every sym_fits (rest g p) ≡ true
unfolding rest every
rest_fit [] p h = refl
rest_fit (r ∷ g) p h =
    let t = and_parts (every sym_fits r.right) (all_fit g) h in
    elim (here_or_later (length r.right) p) [
      | inl k ↦ rw (rest_here r g p k) (every_drop sym_fits p r.right t.0)
      | inr (q, k) ↦ ap (λ j. every sym_fits (rest (r ∷ g) j)) k ∙ ap (every sym_fits) (rest_later r g q) ∙ rest_fit g q t.1
    ]

pub rest_fits : (g : Grammar) (p : ℕ) → a_grammar g ≡ true → every sym_fits (rest g p) ≡ true
rest_fits g p h = rest_fit g p (sizes g h).fitting

-- what the byte of a row says of its next symbol
pub code_range : (β : List Sym) → every sym_fits β ≡ true → (next_code β < 24) ⊎ (((33 ≤ next_code β) × (next_code β < 64)) ⊎ (next_code β ≡ 64))
unfolding every sym_fits sym_spelled next_code
code_range [] h = inr (inr refl)
code_range (sign t ∷ β) h = inl (ltb-true t 24 (and_parts (ltb t 24) (every sym_fits β) h).0)
code_range (name n ∷ β) h =
    let t = and_parts (leb 1 n) (ltb n 32) (and_parts (leb 1 n && ltb n 32) (every sym_fits β) h).0 in
    inr (inl (omega (arith, leb-true 1 n t.0), omega (arith, ltb-true n 32 t.1)))

pub code_complete : (β : List Sym) → every sym_fits β ≡ true → next_code β ≡ 64 → β ≡ []
unfolding every sym_fits sym_spelled next_code
code_complete [] h e = refl
code_complete (sign t ∷ β) h e =
    let k : t < 24 = ltb-true t 24 (and_parts (ltb t 24) (every sym_fits β) h).0 in absurd (omega arith)
code_complete (name n ∷ β) h e =
    let t = and_parts (leb 1 n) (ltb n 32) (and_parts (leb 1 n && ltb n 32) (every sym_fits β) h).0 in
    let k : n < 32 = ltb-true n 32 t.1 in absurd (omega arith)

pub code_sign : (β : List Sym) → next_code β < 32 → (γ : List Sym) × (β ≡ sign (next_code β) ∷ γ)
unfolding sym_spelled next_code
code_sign [] h = absurd (omega arith)
code_sign (sign t ∷ β) h = (β, refl)
code_sign (name n ∷ β) h = absurd (omega arith)

pub code_name : (β : List Sym) → every sym_fits β ≡ true → 32 ≤ next_code β → next_code β < 64 → (γ : List Sym) × (β ≡ name (next_code β - 32) ∷ γ)
unfolding every sym_fits sym_spelled next_code
code_name [] h k l = absurd (omega arith)
code_name (sign t ∷ β) h k l =
    let j : t < 24 = ltb-true t 24 (and_parts (ltb t 24) (every sym_fits β) h).0 in absurd (omega arith)
code_name (name n ∷ β) h k l = let e : 32 + n - 32 ≡ n = omega arith in (β, rw e)
