use Rattle.std.proofs.Common.{length, ap, ◌∙◌, ap₂}
use Rattle.words.specs.Packed.{unpacked}
use Rattle.words.proofs.Packing.{unpacked_zeroes}
use Rattle.parser.specs.Drive.{config, start_config}
use Rattle.parser.proofs.run.begin.Goals as goal

pub returns-clause-stack : goal.returns-clause-stack
unfolding start_config
returns-clause-stack c g s =
    ap₂ (λ cells items. config cells 0 0 items) (ap unpacked c.zeroes.ensures ∙ unpacked_zeroes (length c.args.stack.now)) (c.start.ensures.value g s)
