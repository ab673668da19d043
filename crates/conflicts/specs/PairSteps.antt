-- What the code that finds pairs and clashes answers, where a table shows a grammar. Assumes nothing: these are definitions.
use Rattle.std.specs.Prelude.{◌≡◌, ℕ, ◌<◌, List, [], ◌∷◌, length, Some, None, Option, IfSome, unwrap_or}
use Rattle.words.specs.Rows.{or_at}
use Rattle.grammar.specs.declared.prepared.Prepared.{Prepared}
use Rattle.grammar.specs.declared.table.Table.{Table}
use Rattle.grammar.specs.Grammar.{pick, Grammar, rule, Clash, Clashes, Enough}
use Rattle.grammar.specs.Places.{places, rest, first_place_lem}
use Rattle.grammar.specs.Rows.{begins_with}
use Rattle.grammar.specs.Table.{Shows}
use Rattle.grammar.specs.Prepared.{Describes}
use Rattle.conflicts.specs.declared.clashes.ClashFound.{ClashFound}
use Rattle.conflicts.specs.Pairs.{pair}

-- P of the grammar that the table shows, at two of its places
abbrev pub ShownAt : Table → ℕ → ℕ → (Grammar → Type 0) → Type 0
ShownAt t p q P = (g : Grammar) → Shows t g → p < places g → q < places g → P g

-- the words y come of x by the steps f of the grammar that is prepared
abbrev pub Steps : Prepared → (Grammar → List ℕ → List ℕ) → List ℕ → List ℕ → Type 0
Steps d f x y = (g : Grammar) → Describes d g → y ≡ f g x

abbrev pub StepsAt : Prepared → ℕ → ℕ → (Grammar → List ℕ → List ℕ) → List ℕ → List ℕ → Type 0
StepsAt d p q f x y = (g : Grammar) → Describes d g → p < places g → q < places g → y ≡ f g x

-- rule k is begun at p beside q with these two words, if it is for the name that is next at p
abbrev pub begin_with : Grammar → ℕ → ℕ → ℕ → ℕ → ℕ → List ℕ → List ℕ
begin_with g p q here there k w =
    pick (begins_with (rule g k).left (rest g p)) (or_at (or_at w (pair (first_place_lem g k) q) here) (pair q (first_place_lem g k)) there) w

-- a clash as the definition has it, with the number 64 for going on
abbrev pub clash_told : ClashFound → Clash
clash_told c = record { due = c.due; other = unwrap_or c.other 64; ahead = c.ahead }

-- a clash was found, as the definition has it; or none
abbrev pub Found : Option ClashFound → List Clash → Type 0
Found None cs = cs ≡ []
Found (Some c) cs = cs ≡ clash_told c ∷ []

-- the other rule of a clash, if there is one, is a rule of the grammar: none alone is for going on
abbrev pub OtherIsRule : Grammar → Option ClashFound → Type 0
OtherIsRule g r = IfSome r (λ c. IfSome c.other (λ k. k < length g))

-- what an answer says of a grammar whose names are all of use: one look ahead is enough, or this is a clash
abbrev pub Tells : Grammar → Option ClashFound → Type 0
Tells g None = Enough g
Tells g (Some c) = Clashes g (clash_told c)
