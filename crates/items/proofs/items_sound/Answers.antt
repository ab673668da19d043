use Rattle.items.proofs.Forms.{items_sound_lem}
use Rattle.items.proofs.items_sound.Goals as goal

pub returns : goal.returns
returns c = items_sound_lem
