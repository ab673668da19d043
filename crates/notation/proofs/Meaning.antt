-- The command that loads a grammar spells the grammar that is meant.
use Rattle.std.proofs.Common.{◌≡◌, ℕ, suc, ◌+◌, ◌-◌, Bool, true, false, ltb, List, [], ◌∷◌, map, length, vec_items, refl, ◌∙◌, arith}
use Rattle.grammar.specs.Grammar as theory
use Rattle.grammar.specs.Grammar.{each, pick}
use Rattle.grammar.specs.Spelling.{flat, grammar_spelled, rule_spelled, sym_of, sym_spelled}
use Rattle.grammar.proofs.Spelled.{length_each}
use Rattle.std.specs.List.{flat_map}
use Rattle.std.proofs.lemmas.List.{length-map}
use Rattle.std.proofs.lemmas.Bool.{ltb-false}
use Rattle.notation.specs.declared.rules.Rule.{Rule}
use Rattle.notation.specs.Said.{code_of, grammar_meant, load_said, rule_meant, rule_said}

sym_spelled_of : (b : ℕ) → sym_spelled (sym_of b) ≡ b
unfolding sym_spelled
sym_spelled_of b = go (ltb b 32) refl
  where
    go : (t : Bool) → ltb b 32 ≡ t → sym_spelled (pick t (theory.sign b) (theory.name (b - 32))) ≡ b
    go true e = refl
    go false e = let l = ltb-false b 32 e in omega (arith, l)

each_spelled_of : (bs : List ℕ) → each sym_spelled (each sym_of bs) ≡ bs
unfolding each
each_spelled_of [] = refl
each_spelled_of (b ∷ bs) = let h = sym_spelled_of b in let t = each_spelled_of bs in cc

rule_spelled_meant : (codes : List ℕ) (r : Rule) → rule_spelled (rule_meant codes r) ≡ rule_said codes r
rule_spelled_meant codes r =
    let bs = map (code_of codes) (vec_items r.right) in
    let n : length (each sym_of bs) ≡ length (vec_items r.right) = length_each sym_of bs ∙ length-map (vec_items r.right) (code_of codes) in
    let h : each sym_spelled (each sym_of bs) ≡ bs = each_spelled_of bs in
    cc

flat_spelled_meant : (codes : List ℕ) (rs : List Rule) → flat rule_spelled (each (rule_meant codes) rs) ≡ flat_map (rule_said codes) rs
unfolding flat each
flat_spelled_meant codes [] = refl
flat_spelled_meant codes (r ∷ rs) =
    let h = rule_spelled_meant codes r in
    let t = flat_spelled_meant codes rs in
    cc

pub load_said_meant : (codes : List ℕ) (rs : List Rule) → load_said codes rs ≡ 1 ∷ grammar_spelled (grammar_meant codes rs)
unfolding flat each sym_spelled
load_said_meant codes rs =
    let n : length rs + 1 ≡ suc (length (each (rule_meant codes) rs)) = omega (arith, length_each (rule_meant codes) rs) in
    let h = flat_spelled_meant codes rs in
    cc
