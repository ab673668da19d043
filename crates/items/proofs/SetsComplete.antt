-- The set of a stack has every valid item in it, and so is exact.
use Rattle.std.proofs.Common.{◌≡◌, ℕ, suc, ◌+◌, ◌^◌, ◌<◌, true, ◌↔◌, List, [], ◌∷◌, length, get_or, sym, refl, ap, ◌∙◌, subst, subst₂, arith}
use Rattle.std.proofs.lemmas.List.{length-replicate}
use Rattle.std.proofs.lemmas.Bool.{and_parts, eq-eqb}
use Rattle.words.specs.Bits.{has_bit}
use Rattle.words.specs.Rows.{or_at}
use Rattle.words.proofs.BitLaws.{has_pow}
use Rattle.words.proofs.RowLaws.{or_at_keeps, or_at_has, or_at_rest}
use Rattle.grammar.specs.Grammar.{every, Sym, name, Grammar, rule, a_grammar, AllUseful}
use Rattle.grammar.specs.Spelling.{sym_spelled}
use Rattle.grammar.specs.Places.{places, rest, owner, first_place_lem, next_code, At}
use Rattle.grammar.proofs.Lists.{never}
use Rattle.grammar.proofs.Sizes.{sizes}
use Rattle.grammar.proofs.Places.{place_zero, place_of, place_first, place_next, place_once, places_bound}
use Rattle.items.specs.Items.{first_or, Valid, start, advance, close}
use Rattle.items.specs.Sets.{no_items, begun_ahead, close_round_lem, closure, advanced_set, goto, start_set, stackable, set_of}
use Rattle.items.specs.Statements.{SetsExact}
use Rattle.items.proofs.Items.{valid_rule, done_part}
use Rattle.items.proofs.First.{in_first_of}
use Rattle.items.proofs.ClosedSets.{closure_keeps, closure_rests, begun_at_rest}
use Rattle.items.proofs.AdvancedSets.{advanced_shape, advanced_word}
use Rattle.items.proofs.Begun.{begins_with_name, behind_below, begun_of_first}
use Rattle.items.proofs.SetsSound.{kernel_shape, set_shape, set_sound}

-- closure takes nothing away
closure_holds : (g : Grammar) (s : List ℕ) (p t : ℕ) → has_bit t (get_or s p 0) ≡ true → has_bit t (get_or (closure g s) p 0) ≡ true
closure_holds g s =
    closure_keeps g (λ z. (p t : ℕ) → has_bit t (get_or s p 0) ≡ true → has_bit t (get_or z p 0) ≡ true)
    (λ p k y u _ _ _ _ kept q t h. or_at_keeps u (first_place_lem g k) (begun_ahead g p (get_or y p 0)) q t (kept q t h))
    s (λ p t h. h)

-- whatever is valid behind γ stands in s
abbrev pub Complete : Grammar → List Sym → List ℕ → Type 0
Complete g γ s = (r : ℕ) (β : List Sym) (t : ℕ) → Valid g γ r β t → (p : ℕ) → At g p r β → has_bit t (get_or s p 0) ≡ true

same_place : {g : Grammar} {p q r : ℕ} {β : List Sym} → At g p r β → At g q r β → p ≡ q
same_place {g} {p} {q} a b = place_once g p q a.within b.within (a.owned ∙ sym b.owned) (a.rests ∙ sym b.rests)

module _ (g : Grammar) (fits : a_grammar g ≡ true) where
  pub place_of_valid : {γ : List Sym} {r : ℕ} {β : List Sym} {t : ℕ} → Valid g γ r β t → (p : ℕ) × At g p r β
  place_of_valid {r = r} {β} v =
      let d = done_part v in
      (first_place_lem g r + length d.0, place_of g r d.0 β (valid_rule (sizes g fits).rules v) d.1)

  -- a closed set that has the first item, if the stack is empty, and what comes over the top of the stack, has all
  module _ (z : List ℕ) (rests : close_round_lem g z ≡ z) (long : length z ≡ 192) where
    closed_complete : {f : List Sym} {r : ℕ} {β : List Sym} {t : ℕ} → (f ≡ [] → has_bit 24 (get_or z 0 0) ≡ true) →
        ((x : Sym) (γ : List Sym) (r : ℕ) (β : List Sym) (t : ℕ) → f ≡ x ∷ γ → Valid g γ r (x ∷ β) t → (p : ℕ) → At g p r β → has_bit t (get_or z p 0) ≡ true) →
        Valid g f r β t → (p : ℕ) → At g p r β → has_bit t (get_or z p 0) ≡ true
    closed_complete first over start p a =
        ap (λ q. has_bit 24 (get_or z q 0)) (same_place a (place_zero g fits)) ∙ first refl
    closed_complete first over (advance {γ = γ} {r = r} {x = x} {β = β} {t = t} v) p a = over x γ r β t refl v p a
    closed_complete first over (close {r = r} {n = n} {β = β} {t = t} {v = v} q lt l w D) p a =
        let u = first_or v t in
        let b = place_of_valid w in
        let bit = closed_complete first over w b.0 b.1 in
        let m = begun_ahead g b.0 (get_or z b.0 0) in
        let ahead : has_bit u m ≡ true = begun_of_first g fits b.0 n β b.1.rests (get_or z b.0 0) t u bit (in_first_of t D) in
        let next = begins_with_name (rule g q).left (b.1.rests ∙ ap (λ k. name k ∷ β) (sym l)) in
        let here = place_first g q lt in
        let within : first_place_lem g q < length z = omega (arith, long, here.within, places_bound g fits) in
        let there = or_at_rest z (first_place_lem g q) m u (begun_at_rest g z rests b.0 q b.1.within lt next) within ahead in
        ap (λ k. has_bit u (get_or z k 0)) (same_place a here) ∙ there

  -- what stood before the top of the stack in the set below it stands one place on in the set of the stack
  over_top : (x : Sym) (γ : List Sym) → Complete g γ (set_of g γ) → (r : ℕ) (β : List Sym) (t : ℕ) → Valid g γ r (x ∷ β) t → (p : ℕ) → At g p r β →
      has_bit t (get_or (closure g (advanced_set g (sym_spelled x) (set_of g γ))) p 0) ≡ true
  unfolding next_code
  over_top x γ below r β t v p a =
      let b = place_of_valid v in
      let on = place_next g b.0 x β b.1.rests in
      let e = same_place a (subst (λ k. At g (suc b.0) k β) b.1.owned on) in
      let within : suc b.0 < 192 = omega (arith, on.within, places_bound g fits) in
      let word = advanced_word g (sym_spelled x) (set_of g γ) b.0 b.1.within (ap next_code b.1.rests) within in
      closure_holds g (advanced_set g (sym_spelled x) (set_of g γ)) p t
      (ap (λ k. has_bit t (get_or (advanced_set g (sym_spelled x) (set_of g γ)) k 0)) e ∙ ap (has_bit t) word ∙ below r (x ∷ β) t v b.0 b.1)

  pub set_complete : (γ : List Sym) → every stackable γ ≡ true → Complete g γ (set_of g γ)
  unfolding set_of start_set goto every
  set_complete [] h r β t v p a =
      let kernel = or_at no_items 0 (2 ^ 24) in
      let some : 0 < length no_items = omega (arith, length-replicate {A = ℕ} 192 0) in
      closed_complete (closure g kernel) (closure_rests g (behind_below g fits) kernel (kernel_shape g fits)) (set_shape g fits [] h).long
      (λ _. closure_holds g kernel 0 24 (or_at_has no_items 0 (2 ^ 24) 24 some (has_pow 24 24 ∙ eq-eqb 24 24 refl)))
      (λ x γ r β t e. never (cc)) v p a
  set_complete (x ∷ γ) h r β t v p a =
      let k = and_parts (stackable x) (every stackable γ) h in
      let kernel = advanced_set g (sym_spelled x) (set_of g γ) in
      closed_complete (closure g kernel)
      (closure_rests g (behind_below g fits) kernel (advanced_shape g fits x k.0 (set_of g γ) (set_shape g fits γ k.1)))
      (set_shape g fits (x ∷ γ) h).long
      (λ e. never (cc))
      (λ y δ r β t e w. let ex : y ≡ x = cc in let es : δ ≡ γ = cc in
      over_top x γ (set_complete γ k.1) r β t (subst₂ (λ i j. Valid g j r (i ∷ β) t) ex es w)) v p a

pub set_exact : (g : Grammar) → a_grammar g ≡ true → AllUseful g → (γ : List Sym) → every stackable γ ≡ true → (p t : ℕ) → p < places g →
    (has_bit t (get_or (set_of g γ) p 0) ≡ true) ↔ Valid g γ (owner g p) (rest g p) t
set_exact g fits useful γ h p t hp =
    (λ b. set_sound g fits useful γ h p t b, λ v. set_complete g fits γ h (owner g p) (rest g p) t v p (record { rests = refl; owned = refl; within = hp }))

pub sets_exact_lem : SetsExact
unfolding SetsExact
sets_exact_lem g γ fits useful h = (set_shape g fits γ h, set_exact g fits useful γ h)
