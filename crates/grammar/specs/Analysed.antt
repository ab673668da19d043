-- What the analyses answer: at each place what comes behind its next symbol, and which name is of no use. Assumes nothing: these are definitions.
use Rattle.std.specs.Prelude.{◌≡◌, ℕ, ◌<◌, Bool, true, false, ◌↔◌, List, [], ◌∷◌, drop, Some, None, Option, slice_index_or}
use Rattle.words.specs.Bits.{has_bit}
use Rattle.grammar.specs.declared.analysis.Analysis.{Analysis}
use Rattle.grammar.specs.declared.analysis.Behind.{Behind}
use Rattle.grammar.specs.declared.table.Table.{Table}
use Rattle.grammar.specs.Grammar.{Grammar, in_grammar, Useful, AllUseful}
use Rattle.grammar.specs.First.{Vanishes, Opens}
use Rattle.grammar.specs.Places.{places, rest}
use Rattle.grammar.specs.Rows.{vanishing, opening}
use Rattle.grammar.specs.Table.{Shows, ReadOff}
use Rattle.grammar.specs.Analysis.{behind as behind_of, passes as passes_of}

-- WHAT AN ANALYSIS HAS at a place, of what stands behind its next symbol; past the end no signs, and not that it can vanish
abbrev pub no_behind : Behind
no_behind = record { signs = 0; vanishes = false }

abbrev pub behind_in : Analysis → ℕ → ℕ
behind_in a p = (slice_index_or a.places p no_behind).signs

abbrev pub passes_in : Analysis → ℕ → Bool
passes_in a p = (slice_index_or a.places p no_behind).vanishes

-- what is read off behind the next symbol of a place, if these names can vanish and each name can begin with these signs
pub record IsBehind (t : Table) (N : ℕ) (F : List ℕ) (p : ℕ) (b : Behind) : Type 0 where
  pub signs : ReadOff t (λ β. opening N F (drop 1 β)) p b.signs
  pub vanishes : ReadOff t (λ β. vanishing N (drop 1 β)) p b.vanishes

-- AT EACH PLACE: what is computed
pub record Analysed (g : Grammar) (a : Analysis) : Type 0 where
  pub behind : (p : ℕ) → p < places g → behind_in a p ≡ behind_of g p
  pub passes : (p : ℕ) → p < places g → passes_in a p ≡ passes_of g p

abbrev pub Analyses : Table → Analysis → Type 0
Analyses t a = (g : Grammar) → Shows t g → Analysed g a

-- and what it says: the FIRST signs of what stands behind the next symbol, and whether that is nullable
pub record ExactBehind (g : Grammar) (a : Analysis) : Type 0 where
  pub opens : (p u : ℕ) → p < places g → (has_bit u (behind_in a p) ≡ true) ↔ Opens g (drop 1 (rest g p)) u
  pub vanishes : (p : ℕ) → p < places g → (passes_in a p ≡ true) ↔ Vanishes g (drop 1 (rest g p))

abbrev pub ExactAtPlaces : Table → Analysis → Type 0
ExactAtPlaces t a = (g : Grammar) → Shows t g → ExactBehind g a

-- A NAME OF NO USE, or none: as a list of one, or of none
abbrev pub listed : Option ℕ → List ℕ
listed None = []
listed (Some n) = n ∷ []

abbrev pub Judged : Grammar → Option ℕ → Type 0
Judged g None = AllUseful g
Judged g (Some n) = (in_grammar g n ≡ true) × (Useful g n → ⊥)

abbrev pub Judges : Table → Option ℕ → Type 0
Judges t r = (g : Grammar) → Shows t g → Judged g r
