-- What may come next, as its step is told to the world outside; and the row of signs that it shows.
use Rattle.std.proofs.Common.{Ok, Err, ◌≡◌, ℕ, ◌+◌, ◌-◌, ◌*◌, ◌^◌, ◌<◌, ◌≤◌, Bool, true, false, List, [], ◌∷◌, ◌++◌, length, set, sym, refl, ap, ◌∙◌, subst, ap₂, append-nil, add-one, arith, length-append, length-set}
use Rattle.words.specs.Bits.{has_bit}
use Rattle.grammar.specs.Grammar.{pick, Grammar}
use Rattle.parser.specs.Rows.{passing}
use Rattle.parser.specs.Drive.{Following, followed_by, wrong_before, unknown, next_of}
use Rattle.parser.specs.declared.check.Unread.TheVariants.{Wrong, GaveOut}
use Rattle.parser.specs.Told.{followed, signs_in}
use Rattle.parser.proofs.Rows.{passing_push}
use Rattle.reader.specs.declared.Told.{Told}
use Rattle.reader.specs.declared.Told.TheVariants.{Shows, No}
use Rattle.reader.specs.declared.refusal.Refusal.TheVariants.{NoGrammar, NoText}
use Rattle.reader.specs.Memory.{Layout, moves_of, with_phase, over, loaded}
use Rattle.reader.specs.Machine.{expects_with, expects, on_following, refuses}
use Rattle.reader.specs.Entry.{StepTold, ActTold}
use Rattle.reader.proofs.Lent.{Worked}

-- THE ROW, sign by sign: those below i stand in front of what was there
pub record SoFar (mask : ℕ) (out : List ℕ) (i many : ℕ) (out₁ : List ℕ) : Type 0 where
  pub few : many ≤ i
  pub long : length out₁ ≡ length out
  pub count : many ≡ length (passing (λ t. has_bit t mask) i 0)
  pub row : out₁ ≡ over (passing (λ t. has_bit t mask) i 0) out

pub so_far_none : (mask : ℕ) (out : List ℕ) → SoFar mask out 0 0 out
unfolding passing
so_far_none mask out = record { few = omega arith; long = refl; count = refl; row = refl }

-- one number more, in the first free place
set_behind_lem : (xs ys : List ℕ) (x : ℕ) → length xs < length ys → set (over xs ys) (length xs) x ≡ over (xs ++ x ∷ []) ys
set_behind_lem [] [] x h = absurd (omega arith)
set_behind_lem [] (y ∷ ys) x h = refl
set_behind_lem (z ∷ xs) [] x h = absurd (omega arith)
set_behind_lem (z ∷ xs) (y ∷ ys) x h = ap (λ (l : List ℕ). z ∷ l) (set_behind_lem xs ys x (omega arith))

row_push : (f : ℕ → Bool) (i : ℕ) (b : Bool) → f i ≡ b → passing f (i + 1) 0 ≡ passing f i 0 ++ pick b (i ∷ []) []
row_push f i b e =
    let z : 0 + i ≡ i = omega arith in
    ap (λ k. passing f k 0) (add-one i) ∙ passing_push f i 0 ∙ ap (λ n. passing f i 0 ++ pick (f n) (n ∷ []) []) z
    ∙ ap (λ c. passing f i 0 ++ pick c (i ∷ []) []) e

module _ (mask : ℕ) (out : List ℕ) (i many : ℕ) (out₁ : List ℕ) (so : SoFar mask out i many out₁) where
  abbrev below : ℕ → List ℕ
  below k = passing (λ t. has_bit t mask) k 0

  pub so_far_has : i < length out → has_bit i mask ≡ true → SoFar mask out (i + 1) (many + 1) (set out₁ many i)
  so_far_has h b =
      let e : below (i + 1) ≡ below i ++ i ∷ [] = row_push (λ t. has_bit t mask) i true b in
      let l : length (below i) < length out = omega (arith, so.few, so.count) in
      record {
        few = omega (arith, so.few);
        long = length-set out₁ many i ∙ so.long;
        count = omega (arith, so.count, ap length e, length-append (below i) (i ∷ []));
        row = ap₂ (λ (o : List ℕ) (k : ℕ). set o k i) so.row so.count ∙ set_behind_lem (below i) out i l ∙ ap (λ (r : List ℕ). over r out) (sym e);
      }

  pub so_far_not : has_bit i mask ≡ false → SoFar mask out (i + 1) many out₁
  so_far_not b =
      let e : below (i + 1) ≡ below i = row_push (λ t. has_bit t mask) i false b ∙ append-nil (below i) in
      record {
        few = omega (arith, so.few);
        long = so.long;
        count = so.count ∙ ap length (sym e);
        row = so.row ∙ ap (λ (r : List ℕ). over r out) (sym e);
      }

-- THE STEP
module _ (l : Layout) (m ts out : List ℕ) where
  pub expect_unloaded : loaded m ≡ [] → StepTold (expects l m ts) (No NoGrammar) out m out
  unfolding expects_with ActTold
  expect_unloaded e = rw e (refl, ((NoGrammar, refl, refl), refl))

  module _ (g : Grammar) (work m₁ : List ℕ) (is : loaded m ≡ g ∷ []) (w : Worked l m work m₁) where
    known : (e : Following) → e ≡ next_of g ts (8 * (length work - l.fuel)) (2 ^ (64 * l.fuel) - 1) → e ≡ next_of g ts (8 * l.stack) (moves_of l.fuel)
    unfolding moves_of
    known e h =
        let k : length work - l.fuel ≡ l.stack = omega (arith, w.long) in h ∙ ap (λ (n : ℕ). next_of g ts (8 * n) (2 ^ (64 * l.fuel) - 1)) k

    pub signs_told : (mask k r : ℕ) (out₁ : List ℕ) → followed (Ok mask) ≡ next_of g ts (8 * (length work - l.fuel)) (2 ^ (64 * l.fuel) - 1) → k ≡ 2 →
        r ≡ length (signs_in mask) → out₁ ≡ over (signs_in mask) out → StepTold (expects l m ts) (Shows r) out (with_phase k m₁) out₁
    unfolding expects_with on_following ActTold followed
    signs_told mask k r out₁ e p n o = rw (is, ← (known (followed_by (signs_in mask)) e)) (ap₂ with_phase p w.clear, (ap Shows n, o))

    pub wrong_told : (p : ℕ) (r : Told) (m₂ out₁ : List ℕ) → followed (Err (Wrong p)) ≡ next_of g ts (8 * (length work - l.fuel)) (2 ^ (64 * l.fuel) - 1) →
        StepTold (refuses m₁ 4 (p ∷ [])) r out m₂ out₁ → StepTold (expects l m ts) r out m₂ out₁
    unfolding expects_with on_following followed
    wrong_told p r m₂ out₁ e s = rw (is, ← (known (wrong_before p) e)) (subst (λ (x : List ℕ). StepTold (refuses x 4 (p ∷ [])) r out m₂ out₁) w.clear s)

    pub unknown_told : followed (Err GaveOut) ≡ next_of g ts (8 * (length work - l.fuel)) (2 ^ (64 * l.fuel) - 1) → StepTold (expects l m ts) (No NoText) out m₁ out
    unfolding expects_with on_following ActTold followed
    unknown_told e = rw (is, ← (known unknown e)) (w.clear, ((NoText, refl, refl), refl))
