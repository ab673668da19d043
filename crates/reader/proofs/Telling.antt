-- One step of the machine, as it is told: what the code tests is what the contract asks.
use Rattle.std.proofs.Common.{◌≡◌, ℕ, suc, ◌<◌, ◌≤◌, true, false, ◌&&◌, eqb, ltb, leb, List, [], ◌∷◌, length, get_or, sym, refl, ap, ◌∙◌, subst, arith}
use Rattle.std.proofs.lemmas.Bool.{eq-eqb, ne_eqb, and_parts, and_from, leb-true, eqb-true, lt-ltb}
use Rattle.grammar.specs.Grammar.{every}
use Rattle.reader.specs.Promise.{Event, said, next}
use Rattle.reader.specs.Memory.{Layout}
use Rattle.reader.specs.Machine.{machine, answered, event_fits, sizes_fit}
use Rattle.reader.specs.Entry.{own, own_layout, event_of, StepSays, StepTold, step_fits}
use Rattle.reader.specs.declared.Told.{Told}
use Rattle.reader.specs.declared.Told.TheVariants.{No}
use Rattle.reader.specs.declared.refusal.Refusal.TheVariants.{Sizes as BadSizes}
use Rattle.reader.proofs.Steps.{own_length, own_words, stepped_fits}

pub fits_is : (m : List ℕ) (k : ℕ) (t out : List ℕ) → step_fits m k t out ≡ sizes_fit (length m) k (length t) (length out)
unfolding step_fits
fits_is m k t out = rw own_length

-- sizes that do not fit
pub not_told : (m : List ℕ) (k : ℕ) (t out : List ℕ) → false ≡ sizes_fit (length m) k (length t) (length out) →
    StepSays m k t out (step_fits m k t out) (No BadSizes) m out
unfolding StepSays
not_told m k t out h = rw (fits_is m k t out, ← h) (refl, refl, refl)

-- a slice of bytes is a row of bytes
pub bytes_fit : (t : List ℕ) → ((i : ℕ) → get_or t i 0 < 256) → every (λ b. ltb b 256) t ≡ true
unfolding every
bytes_fit [] h = refl
bytes_fit (b ∷ t) h = and_from _ _ (lt-ltb b 256 (h 0)) (bytes_fit t (λ i. h (suc i)))

pub record Sizes (m : List ℕ) (k : ℕ) (t out : List ℕ) : Type 0 where
  pub own_size : length m ≡ 524288
  pub kind : k ≤ 1
  pub short : leb (length t) 4097 ≡ true
  pub room : 32 ≤ length out

pub sizes : (m : List ℕ) (k : ℕ) (t out : List ℕ) → true ≡ sizes_fit (length m) k (length t) (length out) → Sizes m k t out
sizes m k t out h =
    let p = and_parts (eqb (length m) 524288) _ (sym h) in
    let q = and_parts (leb k 1) (leb (length t) 4097 && leb 32 (length out)) p.1 in
    let r = and_parts (leb (length t) 4097) (leb 32 (length out)) q.1 in
    record { own_size = eqb-true _ _ p.0; kind = leb-true k 1 q.0; short = r.0; room = leb-true 32 (length out) r.1 }

module _ (m : List ℕ) (k : ℕ) (t out : List ℕ) (h : true ≡ sizes_fit (length m) k (length t) (length out)) where
  module _ (l : Layout) (its : l ≡ own_layout) (r : Told) (m₁ out₁ : List ℕ) where
    told : (ev : Event) → event_of k t ≡ ev → event_fits ev ≡ true → StepTold (answered l m ev) r out m₁ out₁ → StepSays m k t out (step_fits m k t out) r m₁ out₁
    unfolding StepSays own machine
    told ev e f s =
        rw (fits_is m k t out, ← h, e, stepped_fits own_layout m ev (own_words m (sizes m k t out h).own_size) f)
        (subst (λ (x : Layout). StepTold (answered x m ev) r out m₁ out₁) its s)

    -- to go on
    pub told_next : k ≡ 1 → StepTold (answered l m next) r out m₁ out₁ → StepSays m k t out (step_fits m k t out) r m₁ out₁
    unfolding event_fits
    told_next e s = told next (let n : eqb k 0 ≡ false = ne_eqb k 0 (λ z. omega arith) in rw n) refl s

    -- a row of bytes
    pub told_said : (k ≡ 1 → ⊥) → ((i : ℕ) → get_or t i 0 < 256) → StepTold (answered l m (said t)) r out m₁ out₁ → StepSays m k t out (step_fits m k t out) r m₁ out₁
    unfolding event_fits
    told_said n b s =
        let z = sizes m k t out h in
        let e : k ≡ 0 = omega (arith, z.kind) in
        told (said t) (rw (eq-eqb k 0 e)) (and_from _ _ z.short (bytes_fit t b)) s

-- the memory is as long as the layout has it
pub as_long : (m : List ℕ) (l : Layout) → l ≡ own_layout → length m ≡ 524288 → length m ≡ l.words
as_long m l its h = own_words m h ∙ sym (ap (λ (x : Layout). x.words) its)
