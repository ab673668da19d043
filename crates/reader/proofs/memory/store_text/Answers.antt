use Rattle.reader.proofs.Bytes.{text_stored}
use Rattle.reader.proofs.memory.store_text.Goals as goal

pub returns : goal.returns
returns c = text_stored c.args.memory.now c.args.signs.now _ _ c.from.ensures c.write_over.ensures
