use Rattle.std.proofs.Common.{refl}
use Rattle.grammar.specs.Rows.{opening, vanishing}
use Rattle.grammar.proofs.Behind.{behind_symbol, behind_complete}
use Rattle.grammar.proofs.analysis.behind_of.Goals as goal

pub returns-then-is_none : goal.returns-then-is_none
unfolding opening vanishing
returns-then-is_none c = record {
  signs = behind_complete (opening c.args.nullable c.args.firsts.now) c.args.place _ c.next_at.ensures.meaning _ c.if-is_none.ensures refl;
  vanishes = behind_complete (vanishing c.args.nullable) c.args.place _ c.next_at.ensures.meaning _ c.if-is_none.ensures refl;
}

pub returns : goal.returns
returns c = record {
  signs = behind_symbol (opening c.args.nullable c.args.firsts.now) c.args.place _ c.next_at.ensures.meaning _ c.if-is_none.ensures c.row_opening.ensures;
  vanishes = behind_symbol (vanishing c.args.nullable) c.args.place _ c.next_at.ensures.meaning _ c.if-is_none.ensures c.row_vanishes.ensures;
}
