use Rattle.std.proofs.Common.{◌≡◌, suc, ◌+◌, length, sym, ap, ◌∙◌, arith}
use Rattle.grammar.specs.Places.{rest, owner, first_place_lem}
use Rattle.grammar.specs.Table.{first_in}
use Rattle.grammar.proofs.Places.{place_parts, first_place_all, place_end}
use Rattle.grammar.proofs.table.Table.end_of.Goals as goal
use Rattle.grammar.proofs.table.Table.end_of.Goals.{then-next-self, else-next-self}

pub returns : goal.returns
returns c g s h =
    let p = c.args.place in
    let o : c.from-next.result ≡ owner g p = c.from-next.ensures ∙ c.owner_of.ensures ∙ s.holds.owners p h in
    let next : c.from-next.result + 1 ≡ suc (owner g p) = omega (arith, o) in
    let end = place_end g p h in
    elim c.if-next-self.branch [
      | then-next-self w ↦
          let first = w.from-behind.ensures ∙ w.first_of.ensures ∙ s.holds.firsts (c.from-next.result + 1) (omega (arith, s.holds.rules, w.if-next-self.true)) ∙ ap (first_place_lem g) next in
          omega (arith, c.saturating_sub.ensures, w.behind-is, first, end)
      | else-next-self w ↦
          let parts = place_parts g p h in
          let last : suc (owner g p) ≡ length g = omega (arith, s.holds.rules, w.if-next-self.false, next, parts.owner_within) in
          let all = ap (first_place_lem g) last ∙ first_place_all g in
          omega (arith, c.saturating_sub.ensures, w.behind-is, s.holds.places, all, end)
    ]
