-- Places by number and by rule and dot, in a table that shows a grammar.
use Rattle.std.proofs.Common.{◌≡◌, ℕ, ◌+◌, ◌-◌, ◌<◌, ◌≤◌, ◌++◌, length, take, drop, sym, ap, ◌∙◌, subst, arith, length-append, take-append-drop, length-take-le, drop_at}
use Rattle.grammar.specs.declared.table.Place.{Place}
use Rattle.grammar.specs.declared.table.Table.{Table}
use Rattle.grammar.specs.Grammar.{Grammar, rule}
use Rattle.grammar.specs.Places.{places, rest, owner, first_place_lem, At}
use Rattle.grammar.specs.Table.{Shows, Marks, owner_in, first_in}
use Rattle.grammar.proofs.Places.{place_of, place_parts}

module _ {t : Table} {g : Grammar} (s : Shows t g) (p : ℕ) (h : p < places g) where
  owner_first : first_in t (owner_in t p) ≡ first_place_lem g (owner g p)
  owner_first = ap (first_in t) (s.holds.owners p h) ∙ s.holds.firsts (owner g p) (place_parts g p h).owner_within

  pub marks_place : (r d : ℕ) → r ≡ owner_in t p → d ≡ p - first_in t (owner_in t p) → Marks g p (record { rule = r; dot = d })
  marks_place r d er ed =
      let parts = place_parts g p h in
      let o : r ≡ owner g p = er ∙ s.holds.owners p h in
      let n : d ≡ length parts.done = omega (arith, ed, owner_first, parts.number) in
      let w : (rule g r).right ≡ parts.done ++ rest g p = ap (λ k. (rule g k).right) o ∙ parts.whole in
      record {
        within = h;
        owned = o;
        number = omega (arith, ap (first_place_lem g) o, n, parts.number);
        done = omega (arith, n, ap length w, length-append parts.done (rest g p));
        coming = ap (drop d) w ∙ drop_at parts.done (rest g p) d (sym n);
      }

pub marks_number : {t : Table} {g : Grammar} → Shows t g → (m : Place) (p : ℕ) → p ≡ first_in t m.rule + m.dot → m.rule < length g →
    m.dot ≤ length (rule g m.rule).right → Marks g p m
marks_number {t} {g} s m p e h k =
    let row = (rule g m.rule).right in
    let l = length-take-le m.dot row k in
    let n : first_place_lem g m.rule + length (take m.dot row) ≡ p = omega (arith, e, l, s.holds.firsts m.rule h) in
    let a = subst (λ q. At g q m.rule (drop m.dot row)) n
    (place_of g m.rule (take m.dot row) (drop m.dot row) h (sym (take-append-drop m.dot row))) in
    record { within = a.within; owned = sym a.owned; number = omega (arith, n, l); done = k; coming = sym a.rests }
