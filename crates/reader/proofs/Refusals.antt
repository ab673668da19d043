-- A step's events, as they are told: to go on, bytes that are no command, and each command.
use Rattle.std.proofs.Common.{◌≡◌, ℕ, List, [], ◌∷◌, refl}
use Rattle.grammar.specs.Grammar.{Grammar}
use Rattle.reader.specs.declared.Told.{Told}
use Rattle.reader.specs.declared.Told.TheVariants.{No}
use Rattle.reader.specs.declared.refusal.Refusal.TheVariants.{NoCommand, Unknown}
use Rattle.reader.specs.House.{load, read_text, what_next}
use Rattle.reader.specs.Decode.{decode}
use Rattle.reader.specs.Promise.{said, next}
use Rattle.reader.specs.Memory.{Layout}
use Rattle.reader.specs.Machine.{answered, commanded, goes_on, loads, reads}
use Rattle.reader.specs.Entry.{StepTold, ActTold}

module _ (l : Layout) (m t out : List ℕ) where
  pub none_refused : decode t ≡ [] → StepTold (answered l m (said t)) (No NoCommand) out m out
  unfolding answered ActTold commanded
  none_refused e = rw e (refl, ((NoCommand, refl, refl), refl))

  pub what_next_refused : (ts : List ℕ) → decode t ≡ what_next ts ∷ [] → StepTold (answered l m (said t)) (No Unknown) out m out
  unfolding answered ActTold commanded
  what_next_refused ts e = rw e (refl, ((Unknown, refl, refl), refl))

  module _ (r : Told) (m₁ out₁ : List ℕ) where
    pub next_told : StepTold (goes_on l m) r out m₁ out₁ → StepTold (answered l m next) r out m₁ out₁
    unfolding answered
    next_told s = s

    pub read_told : (ts : List ℕ) → decode t ≡ read_text ts ∷ [] → StepTold (reads l m ts) r out m₁ out₁ → StepTold (answered l m (said t)) r out m₁ out₁
    unfolding answered commanded
    read_told ts e s = rw e s

    pub load_told : (g : Grammar) → decode t ≡ load g ∷ [] → StepTold (loads l.pairs l.pair_words m g) r out m₁ out₁ →
        StepTold (answered l m (said t)) r out m₁ out₁
    unfolding answered commanded
    load_told g e s = rw e s
