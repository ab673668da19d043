use Rattle.conflicts.proofs.Pairs.{pairs_share_a_stack_lem}
use Rattle.conflicts.proofs.pairs_share_a_stack.Goals as goal

pub returns : goal.returns
returns c = pairs_share_a_stack_lem
