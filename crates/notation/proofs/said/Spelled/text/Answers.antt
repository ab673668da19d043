use Rattle.std.proofs.Common.{rules}
use Rattle.notation.proofs.Saying.{text_said_more, text_said_none}
use Rattle.notation.proofs.said.Spelled.text.Goals as goal

pub loop-word-init : goal.loop-word-init
loop-word-init c = search (rules, text_said_none)

pub loop-word-preserved : goal.loop-word-preserved
loop-word-preserved c = search (rules, text_said_more)
