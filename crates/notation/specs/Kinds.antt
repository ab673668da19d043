-- The first bytes of commands. Assumes nothing: these are definitions.
use Rattle.std.specs.Prelude.{ℕ}
use Rattle.notation.specs.declared.said.Kind.{Kind}
use Rattle.notation.specs.declared.said.Kind.TheVariants.{Load, Read, Next}

abbrev pub kind_code : Kind → ℕ
kind_code Load = 1
kind_code Read = 2
kind_code Next = 3
