use Rattle.std.proofs.Common.{◌≡◌, ◌-◌}
use Rattle.grammar.specs.Spelling.{rules_ok}
use Rattle.grammar.proofs.spelling.are_rules.Given as goal

-- what is left decides
abbrev pub invariant-loop : goal.invariant-loop
invariant-loop l = rules_ok (l.many - l.counter) l.room l.rest ≡ rules_ok l.many l.few l.bytes
