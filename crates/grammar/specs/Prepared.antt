-- Which grammar a prepared one is of: its table shows it, and its analysis is of it. Assumes nothing: these are definitions.
use Rattle.std.specs.Prelude.{◌≡◌}
use Rattle.grammar.specs.declared.prepared.Prepared.{Prepared}
use Rattle.grammar.specs.declared.table.Table.{Table}
use Rattle.grammar.specs.Grammar.{Grammar}
use Rattle.grammar.specs.Table.{Shows}
use Rattle.grammar.specs.Analysed.{Analysed}

pub record Describes (p : Prepared) (g : Grammar) : Type 0 where
  pub shows : Shows p.table g
  pub analysed : Analysed g p.analysis

-- made of a table it is of whatever grammar the table shows
abbrev pub DescribesShown : Table → Prepared → Type 0
DescribesShown t p = (p.table ≡ t) × ((g : Grammar) → Shows t g → Describes p g)

-- r is what f says of the grammar
abbrev pub OfPrepared : {A : Type 0} → Prepared → (Grammar → A) → A → Type 0
OfPrepared p f r = (g : Grammar) → Describes p g → r ≡ f g
