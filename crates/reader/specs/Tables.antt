-- What a grammar that is read off the memory says: it is the one that is loaded. Assumes nothing: these are definitions.
use Rattle.std.specs.Prelude.{◌≡◌, ℕ, List, [], ◌∷◌, Some, None, Option}
use Rattle.grammar.specs.declared.prepared.Prepared.{Prepared}
use Rattle.grammar.specs.Spelling.{grammar_of}
use Rattle.grammar.specs.Prepared.{Describes}
use Rattle.reader.specs.Memory.{loaded, spelling_in}

abbrev pub LoadedGrammar : List ℕ → Option Prepared → Type 0
LoadedGrammar m None = loaded m ≡ []
LoadedGrammar m (Some p) = (loaded m ≡ grammar_of (spelling_in m) ∷ []) × Describes p (grammar_of (spelling_in m))
