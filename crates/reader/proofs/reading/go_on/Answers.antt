use Rattle.grammar.specs.Spelling.{grammar_of}
use Rattle.reader.specs.Laid.{layout_of}
use Rattle.reader.specs.Memory.{spelling_in}
use Rattle.reader.proofs.ReadTold.{tell_unloaded, on_telling, on_told, on_refused, on_idle}
use Rattle.reader.proofs.reading.go_on.Goals as goal

pub returns-in_default : goal.returns-in_default
returns-in_default c = on_telling (layout_of c.args.regions) _ _ _ _ _ c.in-Telling.ensures (tell_unloaded (layout_of c.args.regions) _ _ c.in_default.ensures)

pub returns-in-Some : goal.returns-in-Some
returns-in-Some c =
    on_telling (layout_of c.args.regions) _ _ _ _ _ c.in-Telling.ensures
    (c.tell.ensures (grammar_of (spelling_in c.args.memory.now)) c.in-Some.ensures.0 c.in-Some.ensures.1)

pub returns-in-Told : goal.returns-in-Told
returns-in-Told c = on_told (layout_of c.args.regions) _ _ _ c.in-Told.ensures c.from-in-Told.ensures

pub returns-in-Refused : goal.returns-in-Refused
returns-in-Refused c = on_refused (layout_of c.args.regions) _ _ _ _ c.in-Refused.ensures c.from-in-Refused.ensures

pub returns-in-Idle : goal.returns-in-Idle
returns-in-Idle c = on_idle (layout_of c.args.regions) _ _ c.in-Idle.ensures
