-- A command that is run to its end: the turns of the loop are the machine's own steps, and a run that ended is the one that the promise speaks of.
use Rattle.std.proofs.Common.{◌≡◌, ℕ, zero, suc, ◌+◌, ◌<◌, ◌≤◌, Bool, true, false, leb, List, [], ◌∷◌, ◌++◌, length, sym, refl, ap, ◌∙◌, subst, inl, inr, append_assoc, append-nil, arith, length-append}
use mathlib.Core.Bool.{false≢true}
use Rattle.std.proofs.lemmas.Bool.{and_from, eq-eqb}
use Rattle.grammar.specs.Grammar.{pick}
use Rattle.grammar.specs.Spelling.{flat}
use Rattle.reader.specs.House.{Command, load, read_text, what_next, Loaded, core, Answer, Loading, With}
use Rattle.reader.specs.Promise.{Engine, Event, said, next, Act, shows, done, refused, Ran, ran, one_act, runs, May}
use Rattle.reader.specs.Machine.{row_fits, sizes_fit}
use Rattle.reader.specs.Entry.{own, own_layout}
use Rattle.reader.specs.Holds.{Holds}
use Rattle.reader.specs.Running.{row_told, room_for, RanSo, MaySo, NoRoom, StartsWithNothing}
use Rattle.reader.proofs.Steps.{layout_words}
use Rattle.reader.proofs.Invariant.{Answered}
use Rattle.reader.proofs.Main.{answers, own_apart, start_holds}

-- ONE END. Two numbers of steps in which a command comes to its end give the same run.
abbrev EndedRun : Ran → Type 0
EndedRun r = r.end ≡ 1000 → ⊥

one_act_stays : (f h : List ℕ → List (List ℕ) → Ran) (ss : List (List ℕ)) (m : List ℕ) (a : Act) →
    ((m₁ : List ℕ) (ss₁ : List (List ℕ)) → EndedRun (h m₁ ss₁) → f m₁ ss₁ ≡ h m₁ ss₁) → EndedRun (one_act h ss m a) → one_act f ss m a ≡ one_act h ss m a
unfolding one_act
one_act_stays f h ss m (shows s) same x = go (leb (length s) 32) x
  where
    go : (b : Bool) → EndedRun (pick b (h m (ss ++ s ∷ [])) (ran m ss 1001)) →
        pick b (f m (ss ++ s ∷ [])) (ran m ss 1001) ≡ pick b (h m (ss ++ s ∷ [])) (ran m ss 1001)
    go true x = same m (ss ++ s ∷ []) x
    go false x = refl
one_act_stays f h ss m done same x = refl
one_act_stays f h ss m (refused k) same x = refl

pub runs_stays : (n d : ℕ) (e : Engine) (m : List ℕ) (ev : Event) (ss : List (List ℕ)) → EndedRun (runs n e m ev ss) →
    runs (n + d) e m ev ss ≡ runs n e m ev ss
unfolding runs
runs_stays zero d e m ev ss x = absurd (x refl)
runs_stays (suc n) d e m ev ss x =
    let z : suc n + d ≡ suc (n + d) = omega arith in
    ap (λ (k : ℕ). runs k e m ev ss) z
    ∙ one_act_stays (λ m₁ ss₁. runs (n + d) e m₁ next ss₁) (λ m₁ ss₁. runs n e m₁ next ss₁) ss (e.step m ev).memory (e.step m ev).act
    (λ m₁ ss₁. runs_stays n d e m₁ next ss₁) x

runs_once : (n k : ℕ) (e : Engine) (m : List ℕ) (ev : Event) (ss : List (List ℕ)) → EndedRun (runs n e m ev ss) → EndedRun (runs k e m ev ss) →
    runs n e m ev ss ≡ runs k e m ev ss
runs_once n k e m ev ss x y =
    let z : n + k ≡ k + n = omega arith in
    sym (runs_stays n k e m ev ss x) ∙ ap (λ (j : ℕ). runs j e m ev ss) z ∙ runs_stays k n e m ev ss y

-- what was shown stays shown
flat_push : (f : List ℕ → List ℕ) (xs : List (List ℕ)) (x : List ℕ) → flat f (xs ++ x ∷ []) ≡ flat f xs ++ f x
unfolding flat
flat_push f [] x = append-nil (f x)
flat_push f (y ∷ ys) x = ap (λ (zs : List ℕ). f y ++ zs) (flat_push f ys x) ∙ sym (append_assoc (f y) (flat f ys) (f x))

pub rows_push : (ss : List (List ℕ)) (s : List ℕ) → flat row_told (ss ++ s ∷ []) ≡ flat row_told ss ++ row_told s
rows_push ss s = flat_push row_told ss s

pub room_push : (ss : List (List ℕ)) (s : List ℕ) → room_for (ss ++ s ∷ []) ≡ room_for ss + (length s + 1)
room_push ss s = let e = ap length (rows_push ss s) ∙ length-append (flat row_told ss) (row_told s) in omega arith

one_act_grows : (f : List ℕ → List (List ℕ) → Ran) (ss : List (List ℕ)) (m : List ℕ) (a : Act) →
    ((m₁ : List ℕ) (ss₁ : List (List ℕ)) → room_for ss₁ ≤ room_for (f m₁ ss₁).showed) → room_for ss ≤ room_for (one_act f ss m a).showed
unfolding one_act
one_act_grows f ss m (shows s) more = go (leb (length s) 32)
  where
    go : (b : Bool) → room_for ss ≤ room_for (pick b (f m (ss ++ s ∷ [])) (ran m ss 1001)).showed
    go true = omega (arith, room_push ss s, more m (ss ++ s ∷ []))
    go false = omega arith
one_act_grows f ss m done more = omega arith
one_act_grows f ss m (refused k) more = omega arith

pub runs_grow : (n : ℕ) (e : Engine) (m : List ℕ) (ev : Event) (ss : List (List ℕ)) → room_for ss ≤ room_for (runs n e m ev ss).showed
unfolding runs
runs_grow zero e m ev ss = omega arith
runs_grow (suc n) e m ev ss =
    one_act_grows (λ m₁ ss₁. runs n e m₁ next ss₁) ss (e.step m ev).memory (e.step m ev).act (λ m₁ ss₁. runs_grow n e m₁ next ss₁)

-- what may be answered has come to its end
answer_ends : (a : Command) (k : ℕ) (ss : List (List ℕ)) (old new : Loaded) → Answer a k ss old new → k ≤ 6
unfolding Answer Loading With
answer_ends (load h) k ss old new (inl p) = omega (arith, p.2)
answer_ends (load h) k ss old new (inr (inl p)) = omega (arith, p.3)
answer_ends (load h) k ss old new (inr (inr p)) = omega (arith, p.3)
answer_ends (read_text ts) k ss [] new p = omega (arith, p.0)
answer_ends (read_text ts) k ss (g ∷ gs) new (inl p, e) = omega (arith, p.2)
answer_ends (read_text ts) k ss (g ∷ gs) new (inr p, e) = omega (arith, p.3)
answer_ends (what_next ts) k ss [] new p = omega (arith, p.0)
answer_ends (what_next ts) k ss (g ∷ gs) new (inl p, e) = omega (arith, p.3)
answer_ends (what_next ts) k ss (g ∷ gs) new (inr p, e) = omega (arith, p.3)

may_ends : (t : List ℕ) (k : ℕ) (ss : List (List ℕ)) (old new : Loaded) → May core t k ss old new → k ≤ 6
unfolding May
may_ends t k ss old new (inl p) = answer_ends p.0 k ss old new p.3
may_ends t k ss old new (inr (inl p)) = omega (arith, p.3)
may_ends t k ss old new (inr (inr p)) = omega (arith, p.1)

pub starts_with_nothing : StartsWithNothing
unfolding StartsWithNothing own
starts_with_nothing = start_holds own_layout own_apart

own_answers : (m : List ℕ) (old : Loaded) (t : List ℕ) → Holds own_layout m old → row_fits t ≡ true → Answered core own (Holds own_layout) m old t
unfolding own
own_answers m old t h f = answers own_layout own_apart m old t h f

module _ (m t : List ℕ) (f : row_fits t ≡ true) (old : Loaded) (h : Holds own_layout m old) where
  -- a run that is not still at it is the one that may be
  pub may_so : (m₁ shown : List ℕ) (end used : ℕ) → RanSo m t m₁ shown end used → (end ≡ 1000 → ⊥) → MaySo old t m₁ shown end used
  may_so m₁ shown end used r over =
      let a = own_answers m old t h f in
      let y = may_ends t _ _ old a.new a.may in
      let e = ap (λ (x : Ran). x.end) r.runs_so in
      let same = runs_once a.steps r.steps own m (said t) [] (λ z. omega arith) (λ z. over (sym e ∙ z)) ∙ r.runs_so in
      record {
        new = a.new;
        rows = r.rows;
        may = subst (λ (x : Ran). May core t x.end x.showed old a.new) same a.may;
        holds = subst (λ (x : Ran). Holds own_layout x.memory a.new) same a.holds;
        shown_so = r.shown_so;
        used_so = r.used_so;
      }

  -- there is no fault
  pub no_fault : (m₁ shown : List ℕ) (used : ℕ) → RanSo m t m₁ shown 1001 used → ⊥
  no_fault m₁ shown used r =
      let y = may_so m₁ shown 1001 used r (λ z. omega arith) in
      let e : 1001 ≤ 6 = may_ends t 1001 y.rows old y.new y.may in
      omega arith

  -- rows that the machine comes to take more than the room
  pub no_room : (n : ℕ) (m₁ : List ℕ) (ss : List (List ℕ)) (room : ℕ) → ((j : ℕ) → runs (n + j) own m (said t) [] ≡ runs j own m₁ next ss) →
      room < room_for ss → NoRoom old t room
  no_room n m₁ ss room goes less =
      let a = own_answers m old t h f in
      let y = may_ends t _ _ old a.new a.may in
      let z : a.steps + n ≡ n + a.steps = omega arith in
      let same : runs a.steps own m (said t) [] ≡ runs a.steps own m₁ next ss =
      sym (runs_stays a.steps n own m (said t) [] (λ z. omega arith)) ∙ ap (λ (j : ℕ). runs j own m (said t) []) z ∙ goes a.steps in
      let long : room < room_for (runs a.steps own m₁ next ss).showed = omega (arith, runs_grow a.steps own m₁ next ss) in
      record {
        new = a.new;
        rows = (runs a.steps own m (said t) []).showed;
        end = (runs a.steps own m (said t) []).end;
        may = a.may;
        more = subst (λ (x : Ran). room < room_for x.showed) (sym same) long;
      }

  pub size_fits : leb (length t) 4097 ≡ true → false ≡ sizes_fit (length m) 0 (length t) 32 → ⊥
  size_fits short e = false≢true (e ∙ and_from _ _ (eq-eqb (length m) 524288 (h.long ∙ layout_words)) (and_from _ _ short refl))
