-- One move as the code tells it: a push on lent words, and the move that an action stands for.
use Rattle.std.proofs.Common.{◌≡◌, ℕ, ◌+◌, ◌*◌, ◌<◌, Bool, true, false, ltb, List, [], ◌∷◌, length, get_or, set, Some, None, Err, Result, IsErrAnd, sym, refl, ap, ◌∙◌, subst, arith}
use Rattle.std.proofs.lemmas.List.{set_past}
use Rattle.std.proofs.lemmas.Result.{err_from_is_err_and}
use Rattle.std.proofs.lemmas.Bool.{ltb-true, ltb-false}
use Rattle.words.specs.Packed.{unpacked}
use Rattle.words.proofs.PackedLaws.{length_unpacked}
use Rattle.grammar.specs.Grammar.{Grammar}
use Rattle.grammar.proofs.Lists.{never}
use Rattle.items.specs.Sets.{reduce_at, shift_at}
use Rattle.items.specs.Actions.{action_of}
use Rattle.items.specs.declared.sets.Action.TheVariants.{Reduce, Shift}
use Rattle.parser.specs.declared.config.State.{State}
use Rattle.parser.specs.declared.config.Step.{Step}
use Rattle.parser.specs.declared.config.Halt.{Halt}
use Rattle.parser.specs.declared.config.Halt.TheVariants.{Full}
use Rattle.parser.specs.Drive.{Config, config, Moved, full, stuck, on_action, moved, shift_move, reduce_move}
use Rattle.parser.specs.Told.{Told, config_of, moved_by}
use Rattle.parser.proofs.Steps.{reduce_at_rule, shift_at_sign, sign_ahead}

-- a height with room above it can be counted on
pub room_counts : (m : List ℕ) (h : ℕ) → true ≡ ltb h (length (unpacked m)) → length m * 8 < 9223372036854775808 → h + 1 < 18446744073709551616
room_counts m h r l = let k = ltb-true h (length (unpacked m)) (sym r) in omega (arith, length_unpacked m)

-- an error that `?` hands on
pub handed_on : {A E : Type 0} (r : Result A E) (e : E) → IsErrAnd r (λ x. x ≡ e) → r ≡ Err e
handed_on r e h = let p = err_from_is_err_and r h in p.1 ∙ ap Err p.2

-- where there is no room nothing is written
pub told_full : (m n : List ℕ) (s : State) (x : Moved) (h b : ℕ) (r : Result Step Halt) → r ≡ Err Full → false ≡ ltb h (length (unpacked m)) → unpacked n ≡ set (unpacked m) h b → x ≡ full →
    Told x (config_of m s) r (config_of n s)
unfolding moved_by
told_full m n s x h b r q l w e =
    record {
      is = e ∙ ap (λ z. moved_by z (config_of n s)) (sym q);
      kept = λ _. ap (λ z. config z s.height s.taken s.items.words) (w ∙ set_past (unpacked m) h b (ltb-false h (length (unpacked m)) (sym l)));
    }

pub told_as : {x y : Moved} {c d : Config} {r : Result Step Halt} → x ≡ y → Told y c r d → Told x c r d
told_as {c = c} {d = d} {r = r} e t = subst (λ z. Told z c r d) (sym e) t

-- ---- the move of an action

module _ (g : Grammar) (ts : List ℕ) (c : Config) (t : ℕ) (ahead : t ≡ get_or ts c.taken 24) where
  at_sign : (rs : List ℕ) → reduce_at g c.items t ≡ rs → moved g ts c ≡ on_action g c t rs
  unfolding moved
  at_sign rs e = ap (λ z. on_action g c z (reduce_at g c.items z)) (sym ahead) ∙ ap (on_action g c t) e

  pub moved_reduce : (r : ℕ) → Some (Reduce r) ≡ action_of (reduce_at g c.items t) (shift_at g c.items t) → (r < length g) × (moved g ts c ≡ reduce_move g c r)
  unfolding action_of on_action
  moved_reduce r e = go (reduce_at g c.items t) (shift_at g c.items t) refl e
    where
      go : (rs : List ℕ) (b : Bool) → reduce_at g c.items t ≡ rs → Some (Reduce r) ≡ action_of rs b → (r < length g) × (moved g ts c ≡ reduce_move g c r)
      go (q ∷ rs) b f h = let same : q ≡ r = cc in (reduce_at_rule g c.items t r rs (f ∙ ap (λ z. z ∷ rs) same), at_sign (q ∷ rs) f ∙ ap (reduce_move g c) same)
      go [] true f h = never (cc)
      go [] false f h = never (cc)

  pub moved_shift : Some Shift ≡ action_of (reduce_at g c.items t) (shift_at g c.items t) → (c.taken < length ts) × (moved g ts c ≡ shift_move g c t)
  unfolding action_of on_action
  moved_shift e = go (reduce_at g c.items t) (shift_at g c.items t) refl refl e
    where
      go : (rs : List ℕ) (b : Bool) → reduce_at g c.items t ≡ rs → shift_at g c.items t ≡ b → Some Shift ≡ action_of rs b →
          (c.taken < length ts) × (moved g ts c ≡ shift_move g c t)
      go (q ∷ rs) b f k h = never (cc)
      go [] true f k h =
          let l = shift_at_sign g c.items t k in (sign_ahead ts c.taken (omega arith), at_sign [] f ∙ rw k refl)
      go [] false f k h = never (cc)

  pub moved_stuck : None ≡ action_of (reduce_at g c.items t) (shift_at g c.items t) → moved g ts c ≡ stuck
  unfolding action_of on_action
  moved_stuck e = go (reduce_at g c.items t) (shift_at g c.items t) refl refl e
    where
      go : (rs : List ℕ) (b : Bool) → reduce_at g c.items t ≡ rs → shift_at g c.items t ≡ b → None ≡ action_of rs b → moved g ts c ≡ stuck
      go (q ∷ rs) b f k h = never (cc)
      go [] true f k h = never (cc)
      go [] false f k h = at_sign [] f ∙ rw k refl
