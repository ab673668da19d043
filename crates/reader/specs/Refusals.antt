-- The numbers and the words that refusals are told by. Assumes nothing: these are definitions.
use Rattle.std.specs.Prelude.{◌≡◌, ℕ, ◌<◌, List, Result, MatchResult, codes}
use Rattle.reader.specs.declared.refusal.Refusal.{Refusal}
use Rattle.reader.specs.declared.refusal.Refusal.TheVariants.{Sizes, NoCommand, Unknown, NoGrammar, NoText, Clash, Useless}
use Rattle.reader.specs.declared.refusal.NoRefusal.{NoRefusal}

abbrev pub refusal_code : Refusal → ℕ
refusal_code Sizes = 0
refusal_code NoCommand = 1
refusal_code Unknown = 2
refusal_code NoGrammar = 3
refusal_code NoText = 4
refusal_code Clash = 5
refusal_code Useless = 6

-- the refusal with this number, or an error with a number that no refusal has
abbrev pub RefusalOf : ℕ → Result Refusal NoRefusal → Type 0
RefusalOf number r = MatchResult r (λ e. refusal_code e ≡ number) (λ e. (e.0 ≡ number) × (6 < number))

-- in words
abbrev pub refusal_words : Refusal → List ℕ
refusal_words Sizes = codes "sizes that do not fit"
refusal_words NoCommand = codes "no command"
refusal_words Unknown = codes "a command that is not known yet"
refusal_words NoGrammar = codes "there is no grammar"
refusal_words NoText = codes "no text of the grammar"
refusal_words Clash = codes "one sign ahead is not enough"
refusal_words Useless = codes "a name is of no use"
