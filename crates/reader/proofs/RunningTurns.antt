-- The turns of a command that is run to its end: each is the machine's own step, and the rows so far stand in the lent row.
use Rattle.std.proofs.Common.{Some, ◌≡◌, ℕ, suc, ◌+◌, ◌-◌, ◌<◌, ◌≤◌, Bool, true, ◌&&◌, eqb, leb, List, [], ◌∷◌, ◌++◌, length, take, drop, set, sym, refl, ap, ◌∙◌, subst, add-one, arith, length-append, length-set, length-take-le, take-suc-set, take_at}
use lib.Seq.{append_snoc}
use borrow.Rule.Slice.PartMut.{put_mid}
use Rattle.std.proofs.lemmas.Bool.{and_from, and_parts, le-leb, eq-eqb, eqb-true}
use Rattle.std.proofs.lemmas.Slice.{take-put_mid}
use Rattle.grammar.specs.Grammar.{pick}
use Rattle.grammar.specs.Spelling.{flat}
use Rattle.reader.specs.declared.refusal.Refusal.{Refusal}
use Rattle.reader.specs.declared.refusal.Refusal.TheVariants.{Sizes, NoCommand, Unknown, NoGrammar, NoText, Clash, Useless}
use Rattle.reader.specs.declared.Told.{Told}
use Rattle.reader.specs.declared.Told.TheVariants.{Shows, Done, No}
use Rattle.reader.specs.House.{Loaded}
use Rattle.reader.specs.Promise.{Engine, Event, said, next, Act, shows, done, refused, Ran, ran, one_act, runs}
use Rattle.reader.specs.Machine.{row_fits, sizes_fit}
use Rattle.reader.specs.Entry.{own, own_layout, event_of, ActTold, StepTold, StepSays, step_fits}
use Rattle.reader.specs.Holds.{Holds}
use Rattle.reader.specs.Refusals.{refusal_code}
use Rattle.reader.specs.Running.{row_told, room_for, refusal_number, end_of, RanSo, NoRoom}
use Rattle.reader.proofs.Telling.{fits_is}
use Rattle.reader.proofs.Running.{rows_push, room_push, no_room}

-- a row written behind `at` numbers
pub row_put : (shown row ys : List ℕ) (at : ℕ) → at + length row < length shown → ys ≡ row →
    take (at + (length row + 1)) (put_mid (at + 1) ((at + 1) + length row - (at + 1)) (set shown at (length row)) ys) ≡ take at shown ++ row_told row
row_put shown row ys at h e =
    let l = length-set shown at (length row) in
    take-put_mid (at + 1) _ (set shown at (length row)) ys (at + (length row + 1)) (omega (arith, ap length e)) (omega arith)
    ∙ ap (λ (k : ℕ). take k (set shown at (length row)) ++ ys) (add-one at)
    ∙ ap (λ (xs : List ℕ). xs ++ ys) (take-suc-set shown at (length row) (omega arith))
    ∙ append_snoc (take at shown) (length row) ys
    ∙ ap (λ (xs : List ℕ). take at shown ++ length row ∷ xs) e

-- WHAT IS TOLD of an act says which act it was
never : {A : Type 0} → ◌≡◌ {A = ℕ} 0 1 → A
never e = absurd (omega (arith, e))

act_done : (f : List ℕ → List (List ℕ) → Ran) (ss : List (List ℕ)) (m : List ℕ) (a : Act) (out out₁ : List ℕ) → ActTold a Done out out₁ →
    one_act f ss m a ≡ ran m ss 0
unfolding one_act ActTold
act_done f ss m (shows s) out out₁ (e, p) = never (cc)
act_done f ss m done out out₁ (e, p) = refl
act_done f ss m (refused k) out out₁ ((x, e, c), p) = never (cc)

act_refused : (f : List ℕ → List (List ℕ) → Ran) (ss : List (List ℕ)) (m : List ℕ) (a : Act) (x : Refusal) (b : Bool) (out out₁ : List ℕ) →
    refusal_number (refusal_code x) ≡ b → ActTold a (No x) out out₁ → one_act f ss m a ≡ ran m ss (pick b (refusal_code x) 1001)
unfolding one_act ActTold
act_refused f ss m (shows s) x b out out₁ h (e, p) = never (cc)
act_refused f ss m done x b out out₁ h (e, p) = never (cc)
act_refused f ss m (refused j) x b out out₁ h ((y, e, c), p) =
    let s : x ≡ y = cc in
    let i : j ≡ refusal_code x = sym c ∙ sym (ap refusal_code s) in
    rw (i, h)

record RowShown (a : Act) (n : ℕ) (out out₁ : List ℕ) : Type 0 where
  row : List ℕ
  shows_it : a ≡ shows row
  long : length row ≡ n
  lent : out₁ ≡ row ++ drop (length row) out

act_shows : (a : Act) (n : ℕ) (out out₁ : List ℕ) → ActTold a (Shows n) out out₁ → RowShown a n out out₁
unfolding ActTold
act_shows (shows s) n out out₁ (e, p) = record { row = s; shows_it = refl; long = cc; lent = p }
act_shows done n out out₁ (e, p) = never (cc)
act_shows (refused k) n out out₁ ((x, e, c), p) = never (cc)

one_shows : (f : List ℕ → List (List ℕ) → Ran) (ss : List (List ℕ)) (m s : List ℕ) → length s ≤ 32 → one_act f ss m (shows s) ≡ f m (ss ++ s ∷ [])
unfolding one_act
one_shows f ss m s h = rw (le-leb (length s) 32 h)

runs_suc : (j : ℕ) (e : Engine) (m : List ℕ) (ev : Event) (ss : List (List ℕ)) →
    runs (suc j) e m ev ss ≡ one_act (λ m₁ ss₁. runs j e m₁ next ss₁) ss (e.step m ev).memory (e.step m ev).act
unfolding runs
runs_suc j e m ev ss = refl

-- THE INVARIANT: so many steps were taken, and from here on the machine goes on as the whole command does
pub record Sofar (m₀ t m shown : List ℕ) (kind used : ℕ) : Type 0 where
  pub steps : ℕ
  pub rows : List (List ℕ)
  pub continues : (j : ℕ) → runs (steps + j) own m₀ (said t) [] ≡ runs j own m (event_of kind t) rows
  pub told : take used shown ≡ flat row_told rows
  pub within : used ≤ length shown
  pub long : length m ≡ 524288
  pub short : leb (length t) 4097 ≡ true
  pub kind_fits : kind ≤ 1

pub sofar_none : (m t shown : List ℕ) → true ≡ sizes_fit (length m) 0 (length t) 32 → Sofar m t m shown 0 0
unfolding flat
sofar_none m t shown e =
    let p = and_parts (eqb (length m) 524288) (leb (length t) 4097 && true) (sym e) in
    record {
      steps = 0;
      rows = [];
      continues = λ j. let z : 0 + j ≡ j = omega arith in ap (λ (k : ℕ). runs k own m (said t) []) z;
      told = refl;
      within = omega arith;
      long = eqb-true (length m) 524288 p.0;
      short = (and_parts (leb (length t) 4097) true p.1).0;
      kind_fits = omega arith;
    }

module _ (m₀ t m shown : List ℕ) (kind used : ℕ) (s : Sofar m₀ t m shown kind used) (out m₁ out₁ : List ℕ)
    (lent : length out ≡ 32) where
  abbrev Says : Told → Type 0
  Says r = StepSays m kind t out (step_fits m kind t out) r m₁ out₁

  -- the step that was told is the machine's own
  own_told : (r : Told) → Says r → StepTold (own.step m (event_of kind t)) r out m₁ out₁
  unfolding StepSays
  own_told r says =
      let fits : sizes_fit (length m) kind (length t) (length out) ≡ true =
      and_from _ _ (eq-eqb (length m) 524288 s.long) (and_from _ _ (le-leb kind 1 s.kind_fits) (and_from _ _ s.short (le-leb 32 (length out) (omega (arith, lent))))) in
      subst (λ (b : Bool). StepSays m kind t out b r m₁ out₁) (fits_is m kind t out ∙ fits) says

  one_more : (j : ℕ) → runs (s.steps + suc j) own m₀ (said t) []
      ≡ one_act (λ m₂ ss₂. runs j own m₂ next ss₂) s.rows (own.step m (event_of kind t)).memory (own.step m (event_of kind t)).act
  one_more j = s.continues (suc j) ∙ runs_suc j own m (event_of kind t) s.rows

  used_so : used ≡ room_for s.rows
  used_so = sym (length-take-le used shown s.within) ∙ ap length s.told

  ended_so : (end : ℕ) → m₁ ≡ (own.step m (event_of kind t)).memory →
      one_act (λ m₂ ss₂. runs 0 own m₂ next ss₂) s.rows (own.step m (event_of kind t)).memory (own.step m (event_of kind t)).act
      ≡ ran (own.step m (event_of kind t)).memory s.rows end → RanSo m₀ t m₁ shown end used
  ended_so end e r =
      record {
        steps = s.steps + 1;
        rows = s.rows;
        runs_so = one_more 0 ∙ r ∙ ap (λ (x : List ℕ). ran x s.rows end) (sym e);
        shown_so = s.told;
        used_so = used_so;
      }

  pub done_so : Says Done → RanSo m₀ t m₁ shown 0 used
  done_so says = let x = own_told Done says in ended_so 0 x.0 (act_done _ _ _ _ _ _ x.1)

  -- 1001 is a fault
  pub refused_so : (x : Refusal) (b : Bool) → refusal_number (refusal_code x) ≡ b → Says (No x) → RanSo m₀ t m₁ shown (pick b (refusal_code x) 1001) used
  refused_so x b h says = let z = own_told (No x) says in ended_so _ z.0 (act_refused _ _ _ _ x b _ _ h z.1)

  module _ (n : ℕ) (says : Says (Shows n)) (lent₁ : length out₁ ≡ length out) where
    shown_row : RowShown (own.step m (event_of kind t)).act n out out₁
    shown_row = act_shows (own.step m (event_of kind t)).act n out out₁ (own_told (Shows n) says).1

    -- a row is no longer than what is lent for it
    pub row_few : n ≤ 32
    row_few =
        let w = shown_row in
        let l = ap length w.lent ∙ length-append w.row (drop (length w.row) out) in
        omega (arith, w.long, l)

    goes_on_with : (j : ℕ) → runs ((s.steps + 1) + j) own m₀ (said t) [] ≡ runs j own m₁ next (s.rows ++ shown_row.row ∷ [])
    goes_on_with j =
        let w = shown_row in
        let z : (s.steps + 1) + j ≡ s.steps + suc j = omega arith in
        ap (λ (k : ℕ). runs k own m₀ (said t) []) z
        ∙ one_more j
        ∙ ap (λ (x : Act). one_act (λ m₂ ss₂. runs j own m₂ next ss₂) s.rows (own.step m (event_of kind t)).memory x) w.shows_it
        ∙ one_shows (λ m₂ ss₂. runs j own m₂ next ss₂) s.rows (own.step m (event_of kind t)).memory w.row (omega (arith, w.long, row_few))
        ∙ ap (λ (x : List ℕ). runs j own x next (s.rows ++ w.row ∷ [])) (sym (own_told (Shows n) says).0)

    pub sofar_more : (shown₁ row : List ℕ) → length m₁ ≡ length m → length shown₁ ≡ length shown → used + n < length shown → row ≡ take n out₁ →
        take (used + (length row + 1)) shown₁ ≡ take used shown ++ row_told row → Sofar m₀ t m₁ shown₁ 1 (used + (n + 1))
    sofar_more shown₁ row long same room is put =
        let w = shown_row in
        let i : row ≡ w.row = is ∙ ap (λ (xs : List ℕ). take n xs) w.lent ∙ take_at w.row _ n w.long in
        let l : length row ≡ n = ap length i ∙ w.long in
        record {
          steps = s.steps + 1;
          rows = s.rows ++ w.row ∷ [];
          continues = goes_on_with;
          told =
              subst (λ (k : ℕ). take (used + (k + 1)) shown₁ ≡ take used shown ++ row_told row) l put
              ∙ ap (λ (xs : List ℕ). take used shown ++ row_told xs) i
              ∙ ap (λ (xs : List ℕ). xs ++ row_told w.row) s.told
              ∙ sym (rows_push s.rows w.row);
          within = omega arith;
          long = long ∙ s.long;
          short = s.short;
          kind_fits = omega arith;
        }

    -- the row takes more than the room that is left
    pub row_too_long : length shown ≤ used + n → row_fits t ≡ true → (old : Loaded) → Holds own_layout m₀ old → NoRoom old t (length shown)
    row_too_long full f old h =
        let w = shown_row in
        no_room m₀ t f old h (s.steps + 1) m₁ (s.rows ++ w.row ∷ []) (length shown) goes_on_with
        (omega (arith, room_push s.rows w.row, used_so, w.long))

-- a command that is refused is not at it still
pub not_at_it : (x : Refusal) → end_of (Some x) ≡ 1000 → ⊥
not_at_it Sizes z = omega arith
not_at_it NoCommand z = omega arith
not_at_it Unknown z = omega arith
not_at_it NoGrammar z = omega arith
not_at_it NoText z = omega arith
not_at_it Clash z = omega arith
not_at_it Useless z = omega arith
