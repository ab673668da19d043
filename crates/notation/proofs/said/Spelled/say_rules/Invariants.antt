use Rattle.std.proofs.Common.{◌≡◌, ◌++◌, take, vec_items}
use Rattle.std.specs.List.{flat_map}
use Rattle.notation.specs.Said.{rule_said}
use Rattle.notation.proofs.said.Spelled.say_rules.Given as goal

abbrev pub invariant-loop-rule : goal.invariant-loop-rule
invariant-loop-rule l = vec_items l.bytes ≡ vec_items l.initial.bytes ++ flat_map (rule_said l.self.codes.now) (take l.rule-index l.rules)
