use Rattle.std.proofs.Common.{◌≡◌, length, refl, ap, arith, rules}
use Rattle.std.proofs.lemmas.List.{places, get_or-set_same, get_or-set_other}
use Rattle.grammar.specs.declared.table.Head.{Head}
use Rattle.grammar.specs.Table.{no_head}
use Rattle.grammar.proofs.Writes.{part_closed, part_filled}
use Rattle.grammar.proofs.table.Table.add_rule.Goals as goal

pub returns : goal.returns
returns c =
    let t = c.args.self.now in
    let s : length c.args.self.now.symbols ≡ 192 = search rules in
    let o : length c.args.self.now.owners ≡ 192 = search rules in
    let h : length c.args.self.now.heads ≡ 64 = search rules in
    let copied = c.copy_from_slice.ensures.after in
    record {
      rules = refl;
      places = refl;
      symbols_kept = λ p h. search (rules, places);
      symbols_new = λ d h. part_closed t.symbols _ _ t.places (omega arith) c.args.row.now copied 64 d h (search (rules, places));
      owners_kept = λ p h. search (rules, places);
      owners_new = λ d h. part_filled t.owners _ _ t.places _ _ d (omega arith) (c.fill.ensures.after (λ y e. e)) (search (rules, places));
      firsts_kept = λ k h. ap (λ (x : Head). x.first) (get_or-set_other _ _ k _ no_head (λ e. omega arith));
      first_new = ap (λ (x : Head). x.first) (get_or-set_same t.heads t.rules _ no_head (omega arith));
      lefts_kept = λ k h. ap (λ (x : Head). x.left) (get_or-set_other _ _ k _ no_head (λ e. omega arith));
      left_new = ap (λ (x : Head). x.left) (get_or-set_same t.heads t.rules _ no_head (omega arith));
    }
