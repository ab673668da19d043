-- The computed nullable names are exact: a row vanishes by them if and only if it is nullable.
use Rattle.std.proofs.Common.{◌≡◌, ℕ, ◌<◌, true, List, [], ◌∷◌, length, sym, refl, ap, ◌∙◌}
use Rattle.std.proofs.lemmas.Bool.{and_parts, and_from}
use Rattle.words.specs.Bits.{has_bit}
use Rattle.grammar.specs.Grammar.{every, Sym, sign, name, Grammar, a_grammar, rule, sym_fits}
use Rattle.grammar.specs.First.{Vanishes, vanish_nil, vanish_name}
use Rattle.grammar.specs.Rows.{vanishing}
use Rattle.grammar.specs.Analysis.{nullable}
use Rattle.grammar.specs.Computed.{NullableComputed}
use Rattle.grammar.proofs.Lists.{never}
use Rattle.grammar.proofs.Sizes.{sizes}
use Rattle.grammar.proofs.Rounds.{Marks, marked_sound, marked_closed}

-- a rule of the name has a nullable right side
abbrev pub NullableName : Grammar → ℕ → Type 0
NullableName g n = (q : ℕ) × (q < length g) × ((rule g q).left ≡ n) × Vanishes g (rule g q).right

vanishing_sound : (g : Grammar) (N : ℕ) → Marks (NullableName g) N → (β : List Sym) → vanishing N β ≡ true → Vanishes g β
unfolding vanishing
vanishing_sound g N s [] h = vanish_nil
vanishing_sound g N s (sign t ∷ β) h = never (cc)
vanishing_sound g N s (name n ∷ β) h =
    let p = and_parts (has_bit n N) (vanishing N β) h in
    let k = s n p.0 in
    vanish_name k.0 k.1 k.2 k.3 (vanishing_sound g N s β p.1)

pub nullable_sound : (g : Grammar) → Marks (NullableName g) (nullable g)
unfolding nullable
nullable_sound g = marked_sound g vanishing (NullableName g) (λ k M lt s e. (k, lt, refl, vanishing_sound g M s (rule g k).right e))

nullable_closed : (g : Grammar) → a_grammar g ≡ true → (q : ℕ) → q < length g → vanishing (nullable g) (rule g q).right ≡ true →
    has_bit (rule g q).left (nullable g) ≡ true
unfolding nullable
nullable_closed g a q lt e = marked_closed g vanishing (sizes g a) q lt e

vanishing_complete : (g : Grammar) → a_grammar g ≡ true → {β : List Sym} → Vanishes g β → vanishing (nullable g) β ≡ true
unfolding vanishing
vanishing_complete g a vanish_nil = refl
vanishing_complete g a (vanish_name {n = n} {β = β} q lt l V W) =
    let h = nullable_closed g a q lt (vanishing_complete g a V) in
    and_from (has_bit n (nullable g)) (vanishing (nullable g) β) (ap (λ m. has_bit m (nullable g)) (sym l) ∙ h) (vanishing_complete g a W)

pub nullable_complete : (g : Grammar) → a_grammar g ≡ true → (q : ℕ) → q < length g → Vanishes g (rule g q).right → has_bit (rule g q).left (nullable g) ≡ true
nullable_complete g a q lt V = nullable_closed g a q lt (vanishing_complete g a V)

pub vanishing_exact : (g : Grammar) → a_grammar g ≡ true → (β : List Sym) → every sym_fits β ≡ true →
    (vanishing (nullable g) β ≡ true → Vanishes g β) × (Vanishes g β → vanishing (nullable g) β ≡ true)
vanishing_exact g a β _ = (vanishing_sound g (nullable g) (nullable_sound g) β, vanishing_complete g a)

pub nullable_computed_lem : NullableComputed
unfolding NullableComputed
nullable_computed_lem g β a h = vanishing_exact g a β h
