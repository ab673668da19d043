-- What begins a text: less of it does too, there is one first wrong place, and something comes next.
use Rattle.std.proofs.Common.{◌≡◌, ℕ, suc, ◌<◌, ◌≤◌, true, false, List, [], ◌∷◌, ◌++◌, take, drop, sym, refl, inl, inr, append_assoc, append-nil, arith, take-append-drop}
use mathlib.Core.Bool.{false≢true}
use Rattle.std.proofs.lemmas.Bool.{cases_order, cases_Bool, eqb-true, ltb-true}
use Rattle.std.proofs.lemmas.List.{take-take}
use Rattle.grammar.specs.Grammar.{every, any, each, none_of, sign, Grammar, sym_fits, signs, Makes}
use Rattle.grammar.specs.Texts.{Begins, NotBegins, FirstWrong, MayCome, Follows, has}
use Rattle.grammar.specs.Statements.{WrongOnce, SomethingComes}
use Rattle.grammar.proofs.Lists.{never, every_at}
use Rattle.grammar.proofs.Signs.{signs_append}
use Rattle.grammar.proofs.Sizes.{sizes}
use Rattle.grammar.proofs.Forms.{text_fits}

pub begins_shorter : (g : Grammar) (ts us : List ℕ) → Begins g (ts ++ us) → Begins g ts
unfolding Begins
begins_shorter g ts us b = (b.0, us ++ b.1, rw append_assoc at b.2)

wrong_before : (g : Grammar) (ts : List ℕ) (p q : ℕ) → FirstWrong g ts p → FirstWrong g ts q → p < q → ⊥
unfolding FirstWrong NotBegins
wrong_before g ts p q x y l = elim x.2 [
  | inl e ↦ let b = y.0 in omega arith
  | inr stop ↦
      let s : take (suc p) ts ++ drop (suc p) (take q ts) ≡ take q ts = rw (← (take-take (suc p) q ts l)) (take-append-drop (suc p) (take q ts)) in
      never (stop (begins_shorter g (take (suc p) ts) (drop (suc p) (take q ts)) (rw s y.1)))
]

pub wrong_once_lem : WrongOnce
unfolding WrongOnce
wrong_once_lem g ts us p q = (
  begins_shorter g ts us,
  λ x y. elim (cases_order p q) [
    | inl e ↦ e
    | inr (inl l) ↦ absurd (wrong_before g ts p q x y l)
    | inr (inr l) ↦ absurd (wrong_before g ts q p y x l)
  ],
)

has_some : (ks : List ℕ) (t : ℕ) → has ks t ≡ true → none_of ks ≡ false
unfolding any none_of
has_some [] t h = sym h
has_some (k ∷ ks) t h = refl

pub something_comes_lem : SomethingComes
unfolding SomethingComes Begins Follows MayCome sym_fits each
something_comes_lem g ts ks b h a f = go b.1 b.2
  where
    comes : (t : ℕ) → t ≤ 24 → MayCome g ts t → none_of ks ≡ false
    comes t l m = elim (cases_Bool (has ks t)) [
      | inl p ↦ has_some ks t p
      | inr p ↦ never ((f.2 t l).1 p m)
    ]

    go : (more : List ℕ) → Makes g b.0 (ts ++ more) → none_of ks ≡ false
    go [] m = comes 24 (omega arith) (λ e. absurd (false≢true (sym e)), λ e. (b.0, rw append-nil at m))
    go (t ∷ more) m =
        let all : every sym_fits (signs ts ++ signs (t ∷ more)) ≡ true = rw (signs_append ts (t ∷ more)) at (text_fits g (sizes g a) b.0 (ts ++ t ∷ more) m) in
        let l = ltb-true t 24 (every_at sym_fits (signs ts) (sign t) (signs more) all) in
        comes t (omega arith) (λ e. (b.0, more, rw append_assoc m), λ e. let x = eqb-true t 24 e in absurd (omega arith))
