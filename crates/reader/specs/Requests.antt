-- What a decoded request says of the bytes that it was decoded from. Assumes nothing: these are definitions.
use Rattle.std.specs.Prelude.{◌≡◌, ℕ, true, List, [], ◌∷◌, Some, None, Option}
use Rattle.grammar.specs.Spelling.{grammar_ok, grammar_of}
use Rattle.reader.specs.declared.commands.Request.{Request}
use Rattle.reader.specs.declared.commands.Request.TheVariants.{Load, Read, Next}
use Rattle.reader.specs.House.{load, read_text, what_next, a_text}
use Rattle.reader.specs.Decode.{decode}

abbrev pub Decodes : List ℕ → Option Request → Type 0
Decodes t None = decode t ≡ []
Decodes t (Some (Load bs)) = (decode t ≡ load (grammar_of bs.now) ∷ []) × (t ≡ 1 ∷ bs.now) × (grammar_ok bs.now ≡ true)
Decodes t (Some (Read ts)) = (decode t ≡ read_text ts.now ∷ []) × (t ≡ 2 ∷ ts.now) × (a_text ts.now ≡ true)
Decodes t (Some (Next ts)) = (decode t ≡ what_next ts.now ∷ []) × (t ≡ 3 ∷ ts.now)
