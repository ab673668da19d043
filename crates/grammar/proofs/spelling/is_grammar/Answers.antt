use Rattle.std.proofs.Common.{◌-◌, get_or, sym, ap, ◌∙◌, rules}
use Rattle.std.proofs.lemmas.List.{take_rest}
use Rattle.grammar.specs.Spelling.{rules_ok}
use Rattle.grammar.proofs.Rules.{grammar_short, grammar_at}
use Rattle.grammar.proofs.Spelled.{spells}
use Rattle.grammar.proofs.spelling.is_grammar.Goals as goal

pub returns-in_default : goal.returns-in_default
returns-in_default c = let e = grammar_short c.args.bytes.now (search rules) in record { value = e; meaning = spells _ _ e }

pub returns-then-not-is_first : goal.returns-then-not-is_first
returns-then-not-is_first c =
    let e = sym (grammar_at c.args.bytes.now (search rules) ∙ simp (sym c.if-not-is_first.ensures)) in
    record { value = e; meaning = spells _ _ e }

pub returns : goal.returns
returns c =
    let e =
    c.are_rules.ensures
    ∙ ap (rules_ok (get_or c.args.bytes.now 0 0 - 1) 127) (take_rest c.args.bytes.now 4)
    ∙ sym (grammar_at c.args.bytes.now (search rules) ∙ simp (sym c.if-not-is_first.ensures)) in
    record { value = e; meaning = spells _ _ e }
