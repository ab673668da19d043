use Rattle.std.proofs.Common.{◌≡◌, vec_items, ◌∙◌, rules}
use Rattle.notation.specs.Said.{load_said}
use Rattle.notation.proofs.Meaning.{load_said_meant}
use Rattle.notation.proofs.said.Spelled.load.Goals as goal

pub returns-clause-meaning : goal.returns-clause-meaning
returns-clause-meaning c =
    let all : vec_items c.say_rules.new.bytes ≡ load_said c.args.self.now.codes.now (vec_items c.args.self.now.notation.now.rules) = search rules in
    all ∙ load_said_meant c.args.self.now.codes.now (vec_items c.args.self.now.notation.now.rules)
