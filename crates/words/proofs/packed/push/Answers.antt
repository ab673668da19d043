use Rattle.std.proofs.Common.{sym, ◌∙◌}
use Rattle.std.proofs.lemmas.Bool.{le-ltb, lt-ltb}
use Rattle.words.proofs.PackedLaws.{room_by_words, unpacked_set_past}
use Rattle.words.proofs.packed.push.Goals as goal

pub returns-then-height-words-clause-room : goal.returns-then-height-words-clause-room
returns-then-height-words-clause-room c = sym (le-ltb _ _ c.if-height-words.true) ∙ room_by_words c.args.words.now c.args.height

pub returns-then-height-words-clause-value : goal.returns-then-height-words-clause-value
returns-then-height-words-clause-value c = sym (unpacked_set_past c.args.words.now c.args.height c.args.byte c.if-height-words.true)

pub returns-clause-room : goal.returns-clause-room
returns-clause-room c = sym (lt-ltb _ _ c.if-height-words.false) ∙ room_by_words c.args.words.now c.args.height
