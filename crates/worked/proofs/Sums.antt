-- Rows on sums: what comes of them by computation, and what does not by what is expected behind some signs.
use Rattle.std.proofs.Common.{◌≡◌, ℕ, zero, suc, Bool, true, false, eqb, List, [], ◌∷◌, sym, refl, subst, inr, arith}
use Rattle.std.proofs.lemmas.Bool.{eqb-true}
use Rattle.grammar.specs.Grammar.{or, every, any, each, backwards, rule, Makes, comes_by, by_rule, last_name, first_split, put_before, here_or}
use Rattle.grammar.specs.Texts.{Begins, NotBegins, NotMade, FirstWrong, MayCome, rising, has, Follows}
use Rattle.grammar.proofs.Lists.{never}
use Rattle.worked.specs.Table.{sums, plus, x, closed, end, SumRead, SumsReduced, BracketWrong, NextBehindX}
use Rattle.worked.proofs.Acting.{acts}
use Rattle.worked.proofs.Expecting.{expect, lower, wrong_begins_none, behind_x}
use Rattle.worked.proofs.Judged.{judged}

pub sums_reduced_lem : SumsReduced
unfolding SumsReduced
sums_reduced_lem = judged.0

pub sum_read_lem : SumRead
unfolding SumRead Makes comes_by by_rule last_name first_split put_before here_or rule each backwards
sum_read_lem = (0 ∷ 1 ∷ 4 ∷ 2 ∷ 3 ∷ 2 ∷ 3 ∷ [], refl, refl)

x_made : (ds : List ℕ) × Makes sums ds (x ∷ [])
unfolding Makes comes_by by_rule last_name first_split put_before here_or rule each
x_made = (0 ∷ 2 ∷ 3 ∷ [], refl)

-- by x + x
plus_begins : Begins sums (x ∷ plus ∷ [])
unfolding Begins Makes comes_by by_rule last_name first_split put_before here_or rule each
plus_begins = (0 ∷ 1 ∷ 3 ∷ 2 ∷ 3 ∷ [], x ∷ [], refl)

bracket_begins_none : NotBegins sums (x ∷ plus ∷ closed ∷ [])
unfolding acts expect lower each
bracket_begins_none = wrong_begins_none (x ∷ plus ∷ closed ∷ []) refl

pub bracket_wrong_lem : BracketWrong
unfolding BracketWrong NotMade FirstWrong Begins NotBegins
bracket_wrong_lem = ((λ ds m. bracket_begins_none (ds, [], m)), (omega arith, plus_begins, inr bracket_begins_none))

-- the tests whether a number is in a list of two
of_two : (a b : Bool) → or a (or b false) ≡ true → b ≡ false → a ≡ true
of_two true b h e = refl
of_two false true h e = sym e
of_two false false h e = h

of_neither : (a b : Bool) → or a (or b false) ≡ false → (a ≡ false) × (b ≡ false)
of_neither true b h = never (cc)
of_neither false true h = never (cc)
of_neither false false h = (refl, refl)

pub next_behind_x_lem : NextBehindX
unfolding NextBehindX Begins NotBegins Follows MayCome rising every any
next_behind_x_lem = ((x_made.0, [], x_made.1), (refl, refl, λ t _. (may t, may_not t)))
  where
    may : (t : ℕ) → has (plus ∷ end ∷ []) t ≡ true → MayCome sums (x ∷ []) t
    may t h = ((λ e. subst (λ k. Begins sums (x ∷ k ∷ [])) (sym (eqb-true t plus (of_two (eqb t plus) (eqb t end) h e))) plus_begins), λ _. x_made)

    may_not : (t : ℕ) → has (plus ∷ end ∷ []) t ≡ false → MayCome sums (x ∷ []) t → zero ≡ suc zero
    may_not t h m =
        let p = of_neither (eqb t plus) (eqb t end) h in
        wrong_begins_none (x ∷ t ∷ []) (behind_x t p.0) (m.0 p.1)
