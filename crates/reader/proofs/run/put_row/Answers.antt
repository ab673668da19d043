use Rattle.reader.proofs.RunningTurns.{row_put}
use Rattle.reader.proofs.run.put_row.Goals as goal

pub returns : goal.returns
returns c = row_put c.args.shown.now c.args.row.now _ c.args.at c.requires c.copy_from_slice.ensures.after
