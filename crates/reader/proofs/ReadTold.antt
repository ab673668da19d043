-- A text that is read, then told rule by rule, as each step is told to the world outside.
use Rattle.std.proofs.Common.{replicate, ◌≡◌, ℕ, ◌+◌, ◌-◌, ◌*◌, ◌^◌, ◌≤◌, min, false, eqb, leb, List, [], ◌∷◌, length, get_or, take, drop, set, Some, None, Ok, Err, sym, refl, ap, ◌∙◌, subst, ap₂, arith}
use lib.ListN.{length-replicate}
use Rattle.std.proofs.lemmas.Bool.{eq-eqb, ne_eqb, and_parts, leb-true}
use Rattle.words.specs.Packed.{unpacked, packed, stacked}
use Rattle.words.specs.Regions.{region, replaced}
use Rattle.words.proofs.Regions.{length_region}
use Rattle.grammar.specs.Grammar.{pick, each, Grammar}
use Rattle.parser.specs.declared.config.State.{State}
use Rattle.parser.specs.Drive.{Ending, accepted, wrong, gave_out, check_of, Config, config, items_of, Advanced, ends, none, advance_of}
use Rattle.parser.specs.declared.check.Unread.TheVariants.{Wrong, GaveOut}
use Rattle.parser.specs.Told.{config_of, advanced_by, ended}
use Rattle.reader.specs.declared.Told.{Told}
use Rattle.reader.specs.declared.Told.TheVariants.{Shows, Done, No}
use Rattle.reader.specs.declared.memory.Phase.TheVariants.{Idle, Telling, Told as WasTold, Refused}
use Rattle.reader.specs.declared.refusal.Refusal.{Refusal}
use Rattle.reader.specs.declared.refusal.Refusal.TheVariants.{NoCommand, NoGrammar, NoText}
use Rattle.reader.specs.Memory.{Layout, moves_of, phase_in, with_phase, cleared, with_text, text_in, low_byte, height_in, taken_in, stack_in, config_in, loaded}
use Rattle.reader.specs.Machine.{on_ended, tells_with, tells, on_ending, reads_with, reads, refuses, goes_on}
use Rattle.reader.specs.Phases.{PhaseOf}
use Rattle.reader.specs.Entry.{StepTold, ActTold}
use Rattle.reader.proofs.Bytes.{bytes_taken}
use Rattle.reader.proofs.MemoryLaws.{length_cleared, loaded_replaced, loaded_text}
use Rattle.reader.proofs.Lent.{Worked, lent_is}
use Rattle.reader.proofs.Loading.{set_one}

-- TELLING
module _ (l : Layout) (m out : List ℕ) where
  pub tell_unloaded : loaded m ≡ [] → StepTold (tells l m) (No NoGrammar) out m out
  unfolding tells_with ActTold
  tell_unloaded e = rw e (refl, ((NoGrammar, refl, refl), refl))

  module _ (g : Grammar) (is : loaded m ≡ g ∷ []) where
    tell_none : (k : ℕ) (m₁ : List ℕ) → advance_of g (text_in m) (config_in l g m) ≡ none → k ≡ 0 → m₁ ≡ cleared (l.work + l.fuel) l.stack m →
        StepTold (tells l m) (No NoText) out (with_phase k m₁) out
    unfolding tells_with on_ended ActTold
    tell_none k m₁ e p q = rw (is, e) (ap₂ with_phase p q, ((NoText, refl, refl), refl))

    tell_rule : (r k x : ℕ) (c : Config) (m₁ : List ℕ) → 1 ≤ length out → x ≡ r → advance_of g (text_in m) (config_in l g m) ≡ ends r c → k ≡ pick (eqb r 0) 2 1 →
        m₁ ≡ replaced (l.work + l.fuel) l.stack (packed c.cells) m →
        StepTold (tells l m) (Shows 1) out (set (set (set m₁ 258 k) 259 c.height) 260 c.taken) (set out 0 x)
    unfolding tells_with on_ended ActTold
    tell_rule r k x c m₁ h o e p q =
        rw (is, e) (
          ap₂ (λ (y : List ℕ) (j : ℕ). set (set (set y 258 j) 259 c.height) 260 c.taken) q p,
          (refl, ap (set out 0) o ∙ set_one out r h),
        )

-- THE CONFIGURATION that is taken up again
pub record Resumed (l : Layout) (m : List ℕ) (g : Grammar) (text : List ℕ) (st : State) : Type 0 where
  pub is : loaded m ≡ g ∷ []
  pub text_is : text ≡ text_in m
  pub height_is : st.height ≡ height_in m
  pub taken_is : st.taken ≡ taken_in m
  pub items_are : st.items.words ≡ items_of g (stacked (height_in m) (unpacked (stack_in l m)))

pub resumed : (l : Layout) (m : List ℕ) (g : Grammar) (many b e : ℕ) (bytes : List ℕ) (st : State) → 4358 ≤ length m → loaded m ≡ g ∷ [] →
    many ≡ min (get_or m 261 0) 4096 → bytes ≡ each low_byte (region 262 4096 m) → b ≡ l.work + l.fuel → e ≡ l.work + (l.fuel + l.stack) →
    st.height ≡ height_in m → st.taken ≡ taken_in m → st.items.words ≡ items_of g (stacked (height_in m) (unpacked (take (e - b) (drop b m)))) →
    Resumed l m g (take many bytes) st
resumed l m g many b e bytes st long is k low start stop h t i =
    record {
      is = is;
      text_is = ap (λ (x : ℕ). take x bytes) k ∙ bytes_taken (get_or m 261 0) 4096 (region 262 4096 m) bytes (length_region 262 4096 m (omega arith)) low;
      height_is = h;
      taken_is = t;
      items_are = i ∙ ap (λ (s : List ℕ). items_of g (stacked (height_in m) (unpacked s))) (lent_is (l.work + l.fuel) l.stack b e m start (omega arith));
    }

module _ (l : Layout) (m out : List ℕ) (g : Grammar) (text : List ℕ) (st : State) (from : Resumed l m g text st) where
  same_config : config_of (stack_in l m) st ≡ config_in l g m
  same_config = λ i. config (unpacked (stack_in l m)) (from.height_is i) (from.taken_is i) (from.items_are i)

  advanced : (a : Advanced) → advance_of g text (config_of (stack_in l m) st) ≡ a → advance_of g (text_in m) (config_in l g m) ≡ a
  advanced a e = sym (ap₂ (advance_of g) from.text_is same_config) ∙ e

  pub none_told : (k : ℕ) (m₁ : List ℕ) (d : Config) → advance_of g text (config_of (stack_in l m) st) ≡ advanced_by None d → k ≡ 0 →
      m₁ ≡ cleared (l.work + l.fuel) l.stack m → StepTold (tells l m) (No NoText) out (with_phase k m₁) out
  unfolding advanced_by
  none_told k m₁ d e p z = tell_none l m out g from.is k m₁ (advanced none e) p z

  pub rule_told : (r k x : ℕ) (m₁ : List ℕ) (st₁ : State) → 1 ≤ length out → x ≡ r →
      advance_of g text (config_of (stack_in l m) st) ≡ advanced_by (Some r) (config_of (stack_in l m₁) st₁) →
      k ≡ pick (eqb r 0) 2 1 → m₁ ≡ replaced (l.work + l.fuel) l.stack (packed (unpacked (stack_in l m₁))) m →
      StepTold (tells l m) (Shows 1) out (set (set (set m₁ 258 k) 259 st₁.height) 260 st₁.taken) (set out 0 x)
  unfolding advanced_by
  rule_told r k x m₁ st₁ h o e ek z =
      tell_rule l m out g from.is r k x (config_of (stack_in l m₁) st₁) m₁ h o (advanced (ends r (config_of (stack_in l m₁) st₁)) e) ek z

-- READING
module _ (l : Layout) (m ts out : List ℕ) where
  pub read_unloaded : loaded m ≡ [] → StepTold (reads l m ts) (No NoGrammar) out m out
  unfolding reads_with ActTold
  read_unloaded e = rw e (refl, ((NoGrammar, refl, refl), refl))

  module _ (g : Grammar) (work m₁ : List ℕ) (is : loaded m ≡ g ∷ []) (w : Worked l m work m₁) where
    checked : (e : Ending) → e ≡ check_of g ts (8 * (length work - l.fuel)) (2 ^ (64 * l.fuel) - 1) → e ≡ check_of g ts (8 * l.stack) (moves_of l.fuel)
    unfolding moves_of
    checked e h =
        let k : length work - l.fuel ≡ l.stack = omega (arith, w.long) in h ∙ ap (λ (n : ℕ). check_of g ts (8 * n) (2 ^ (64 * l.fuel) - 1)) k

    pub accepted_told : (r : Told) (m₂ m₃ out₁ : List ℕ) → ended (Ok tt) ≡ check_of g ts (8 * (length work - l.fuel)) (2 ^ (64 * l.fuel) - 1) →
        m₂ ≡ with_text ts m₁ → StepTold (tells l m₂) r out m₃ out₁ → StepTold (reads l m ts) r out m₃ out₁
    unfolding reads_with on_ending ended
    accepted_told r m₂ m₃ out₁ e p s =
        rw (is, ← (checked accepted e)) (subst (λ (x : List ℕ). StepTold (tells l x) r out m₃ out₁) (p ∙ ap (with_text ts) w.clear) s)

    pub wrong_told : (p : ℕ) (r : Told) (m₂ out₁ : List ℕ) → ended (Err (Wrong p)) ≡ check_of g ts (8 * (length work - l.fuel)) (2 ^ (64 * l.fuel) - 1) →
        StepTold (refuses m₁ 4 (p ∷ [])) r out m₂ out₁ → StepTold (reads l m ts) r out m₂ out₁
    unfolding reads_with on_ending ended
    wrong_told p r m₂ out₁ e s = rw (is, ← (checked (wrong p) e)) (subst (λ (x : List ℕ). StepTold (refuses x 4 (p ∷ [])) r out m₂ out₁) w.clear s)

    pub gave_out_told : ended (Err GaveOut) ≡ check_of g ts (8 * (length work - l.fuel)) (2 ^ (64 * l.fuel) - 1) → StepTold (reads l m ts) (No NoText) out m₁ out
    unfolding reads_with on_ending ActTold ended
    gave_out_told e = rw (is, ← (checked gave_out e)) (w.clear, ((NoText, refl, refl), refl))

-- the grammar is loaded still, where the text is to be told
pub still_loaded : (l : Layout) (m ts work m₁ m₂ : List ℕ) (g : Grammar) → Worked l m work m₁ → m₂ ≡ with_text ts m₁ → loaded m ≡ g ∷ [] →
    4358 ≤ l.work → l.work + (l.fuel + l.stack) ≤ length m → length ts ≤ 4096 → loaded m₂ ≡ g ∷ []
still_loaded l m ts work m₁ m₂ g w t is low fits short =
    let n : length m₁ ≡ length m = ap length w.clear ∙ length_cleared l.work (l.fuel + l.stack) m fits in
    ap loaded t ∙ loaded_text ts m₁ (omega arith) short ∙ ap loaded w.clear
    ∙ loaded_replaced l.work (l.fuel + l.stack) (replicate (l.fuel + l.stack) 0) m (omega arith) fits (length-replicate {A = ℕ} (l.fuel + l.stack) 0) ∙ is

-- GOING ON
module _ (l : Layout) (m out : List ℕ) where
  pub on_telling : (r : Told) (m₁ out₁ : List ℕ) → PhaseOf (phase_in m) Telling → StepTold (tells l m) r out m₁ out₁ → StepTold (goes_on l m) r out m₁ out₁
  unfolding goes_on
  on_telling r m₁ out₁ e s = rw (eq-eqb (phase_in m) 1 e) s

  pub on_told : (k : ℕ) → PhaseOf (phase_in m) WasTold → k ≡ 0 → StepTold (goes_on l m) Done out (with_phase k m) out
  unfolding goes_on ActTold
  on_told k e z =
      let n : eqb (phase_in m) 1 ≡ false = ne_eqb (phase_in m) 1 (λ z. omega arith) in
      rw (n, eq-eqb (phase_in m) 2 e) (ap (λ (j : ℕ). with_phase j m) z, (refl, refl))

  pub on_refused : (k : ℕ) (e : Refusal) → PhaseOf (phase_in m) (Refused e) → k ≡ 0 → StepTold (goes_on l m) (No e) out (with_phase k m) out
  unfolding goes_on ActTold
  on_refused k e (c, t) z =
      let low = leb-true 4 (phase_in m) (and_parts (leb 4 (phase_in m)) (leb (phase_in m) 6) t).0 in
      let n : eqb (phase_in m) 1 ≡ false = ne_eqb (phase_in m) 1 (λ z. omega arith) in
      let o : eqb (phase_in m) 2 ≡ false = ne_eqb (phase_in m) 2 (λ z. omega arith) in
      rw (n, o, t) (ap (λ (j : ℕ). with_phase j m) z, ((e, refl, c), refl))

  pub on_idle : PhaseOf (phase_in m) Idle → StepTold (goes_on l m) (No NoCommand) out m out
  unfolding goes_on ActTold
  on_idle ((p, q), e) = rw (ne_eqb (phase_in m) 1 p, ne_eqb (phase_in m) 2 q, e) (refl, ((NoCommand, refl, refl), refl))
