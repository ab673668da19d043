use Rattle.std.proofs.Common.{length, sym}
use Rattle.words.proofs.Fixpoint.{counted_still}
use Rattle.items.specs.Sets.{begin_rule}
use Rattle.items.proofs.Codes.{begun_none}
use Rattle.items.proofs.sets.begin_rules.Goals as goal

pub returns-then-not-begins_any-clause-value : goal.returns-then-not-begins_any-clause-value
returns-then-not-begins_any-clause-value c g s h =
    sym (counted_still (begin_rule g c.args.place c.args.ahead) (length g) c.args.set.now
    (λ k l. begun_none s c.args.place c.args.ahead k c.args.set.now h l c.if-not-begins_any.ensures))
