-- What a command says in bytes, and the grammar that is meant. Assumes nothing: these are definitions.
use Rattle.std.specs.Prelude.{◌≡◌, ℕ, ◌+◌, ◌-◌, ◌≤◌, true, List, [], ◌∷◌, map, length, vec_items, nat_lt, slice_index}
use Rattle.std.specs.List.{flat_map}
use Rattle.notation.specs.declared.rules.Rule.{Rule}
use Rattle.grammar.specs.Grammar as theory
use Rattle.grammar.specs.Spelling.{sym_of}

-- the byte of a word
abbrev pub code_of : List ℕ → ℕ → ℕ
code_of codes w = slice_index codes w

-- a rule: its name, how many symbols, and these
abbrev pub rule_said : List ℕ → Rule → List ℕ
rule_said codes r = (code_of codes r.left - 32) ∷ length (vec_items r.right) ∷ map (code_of codes) (vec_items r.right)

-- the command that loads rules, behind a first rule for the beginning
abbrev pub load_said : List ℕ → List Rule → List ℕ
load_said codes rs = 1 ∷ (length rs + 1) ∷ 0 ∷ 1 ∷ 33 ∷ flat_map (rule_said codes) rs

-- the command of a kind, and up to 4,096 signs
pub record TextSaid (kind : ℕ) (bytes : List ℕ) : Type 0 where
  pub signs : List ℕ
  pub is : bytes ≡ kind ∷ signs
  pub few : length signs ≤ 4096
  pub good : theory.every (λ b. nat_lt b 24) signs ≡ true

-- THE GRAMMAR THAT IS MEANT
abbrev pub rule_meant : List ℕ → Rule → theory.Rule
rule_meant codes r = record { left = code_of codes r.left - 32; right = theory.each sym_of (map (code_of codes) (vec_items r.right)) }

abbrev pub grammar_meant : List ℕ → List Rule → theory.Grammar
grammar_meant codes rs = record { left = 0; right = theory.name 1 ∷ [] } ∷ theory.each (rule_meant codes) rs
