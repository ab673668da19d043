-- Rows on grammars that are refused: the clashes, with two readings each, and the name of no use. All by computation.
use Rattle.std.proofs.Common.{◌≡◌, ℕ, ◌<◌, List, [], ◌∷◌, ◌++◌, length, refl, inr, arith}
use Rattle.grammar.specs.Grammar.{each, backwards, Sym, sign, name, Grammar, rule, form, signs, look, Makes, Clashes, comes_by, by_rule, last_name, first_split, put_before, here_or}
use Rattle.grammar.proofs.Derivations.{Step}
use Rattle.grammar.proofs.Clashing.{steps_clash}
use Rattle.worked.specs.Table.{clash, plus, x, sum, sums_of_sums, ifs, SumsClash, IfsClash, OtherUseless}
use Rattle.worked.proofs.Judged.{judged}

-- the rule in place of the name behind a
abbrev step : (g : Grammar) (r : ℕ) (a : List Sym) (w : List ℕ) → r < length g →
    Step g r (a ++ name (rule g r).left ∷ signs w) (a ++ (rule g r).right ++ signs w)
step g r a w h = record { front = a; it = (rule g r).left; tail = w; is = refl; there = h; fits = refl; gives = refl }

-- behind a the rule r is due, where w comes; or one goes on, to the end of the rule q behind b, where y comes
go_on : (g : Grammar) (ds es : List ℕ) (r q : ℕ) (a b : List Sym) (w v y : List ℕ) → r < length g → q < length g →
    form g ds ≡ (a ++ name (rule g r).left ∷ signs w) ∷ [] → form g es ≡ (b ++ name (rule g q).left ∷ signs v) ∷ [] →
    b ++ (rule g q).right ++ signs v ≡ a ++ (rule g r).right ++ signs y → look (signs y) ≡ look (signs w) →
    length (a ++ (rule g r).right) < length (b ++ (rule g q).right) → Clashes g (clash r 64 (look (signs w)))
go_on g ds es r q a b w v y hr hq d e same looks further =
    steps_clash g ds es _ _ _ _ r q d e (step g r a w hr) (step g q b v hq) y same looks 64 (inr (refl, further))

-- `sum + x` with the first sum longer, and `sum + sum + sum` with x for the last, are both `sum + sum + x`
pub sums_clash_lem : SumsClash
unfolding SumsClash Makes comes_by by_rule last_name first_split put_before here_or rule each backwards look
sums_clash_lem = ((judged.1, meet), (0 ∷ 1 ∷ 2 ∷ 1 ∷ 2 ∷ 2 ∷ [], refl, refl), (0 ∷ 1 ∷ 1 ∷ 2 ∷ 2 ∷ 2 ∷ [], refl, refl))
  where
    meet : Clashes sums_of_sums (clash 1 64 plus)
    meet =
        go_on sums_of_sums (0 ∷ 1 ∷ 2 ∷ []) (0 ∷ 1 ∷ 1 ∷ []) 1 2 [] (name sum ∷ sign plus ∷ name sum ∷ sign plus ∷ []) (plus ∷ x ∷ []) [] (plus ∷ x ∷ [])
        (omega arith) (omega arith) refl refl refl refl (omega arith)

-- `0 if 1 3` with the shorter rule for its if, and `0 0 if 1 if` with 3 for the last, are both `0 0 if 1 3`
pub ifs_clash_lem : IfsClash
unfolding IfsClash Makes comes_by by_rule last_name first_split put_before here_or rule each backwards look
ifs_clash_lem = ((judged.2, meet), (0 ∷ 1 ∷ 3 ∷ 2 ∷ 3 ∷ [], refl, refl), (0 ∷ 2 ∷ 1 ∷ 3 ∷ 3 ∷ [], refl, refl))
  where
    meet : Clashes ifs (clash 2 64 1)
    meet =
        go_on ifs (0 ∷ 1 ∷ 3 ∷ []) (0 ∷ 2 ∷ 1 ∷ []) 2 3 (sign 0 ∷ []) (sign 0 ∷ sign 0 ∷ name 1 ∷ sign 1 ∷ []) (1 ∷ 3 ∷ []) [] (1 ∷ 3 ∷ [])
        (omega arith) (omega arith) refl refl refl refl (omega arith)

pub other_useless_lem : OtherUseless
unfolding OtherUseless Makes comes_by by_rule last_name first_split put_before here_or rule each backwards
other_useless_lem = (judged.3, (0 ∷ 2 ∷ [], refl, refl))
