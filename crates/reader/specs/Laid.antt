-- The machine's regions as its layout. Assumes nothing: these are definitions.
use Rattle.reader.specs.declared.regions.Regions.{Regions}
use Rattle.reader.specs.Memory.{Layout}

-- the layout with these regions
abbrev pub layout_of : Regions → Layout
layout_of r = record { words = r.words; work = r.work; fuel = r.fuel; stack = r.stack; pairs = r.pairs; pair_words = r.pair_words }
