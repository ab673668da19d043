use Rattle.std.proofs.Common.{sym, rules, arith}
use Rattle.std.proofs.lemmas.List.{take_rest}
use Rattle.reader.proofs.Decoding.{decode_none, decode_load, decode_read, decode_next, decode_no_load, decode_no_read, decode_no_next, decode_other}
use Rattle.reader.proofs.commands.decode.Goals.{in_default-via-then-text-lt1, in_default-via-in-1+else-is_grammar, in_default-via-in-2+else-is_text, in_default-via-in-3+else-is_text-2, in_default-via-else-text-lt1+in_default-1}
use Rattle.reader.proofs.commands.decode.Goals as goal

pub returns-in-1 : goal.returns-in-1
returns-in-1 c = decode_load _ _ (search rules) (take_rest c.args.text.now 1) (omega arith) (sym c.if-is_grammar.ensures.value)

pub returns-in-2 : goal.returns-in-2
returns-in-2 c = decode_read _ _ (search rules) (take_rest c.args.text.now 1) (omega arith) (sym c.if-is_text.ensures)

pub returns-in-3 : goal.returns-in-3
returns-in-3 c = decode_next _ _ (search rules) (take_rest c.args.text.now 1) (omega arith) (sym c.if-is_text-2.ensures)

pub returns-in_default : goal.returns-in_default
returns-in_default c =
    elim c.in_default.branch [
      | in_default-via-then-text-lt1 w ↦ decode_none _ (search rules)
      | in_default-via-in-1+else-is_grammar w ↦ decode_no_load _ _ (omega arith) (take_rest c.args.text.now 1) (omega arith) (sym w.if-is_grammar.ensures.value)
      | in_default-via-in-2+else-is_text w ↦ decode_no_read _ _ (omega arith) (take_rest c.args.text.now 1) (omega arith) (sym w.if-is_text.ensures)
      | in_default-via-in-3+else-is_text-2 w ↦ decode_no_next _ _ (omega arith) (take_rest c.args.text.now 1) (omega arith) (sym w.if-is_text-2.ensures)
      | in_default-via-else-text-lt1+in_default-1 w ↦ decode_other _ _ (search rules) (take_rest c.args.text.now 1) (λ z. omega arith) (λ z. omega arith) (λ z. omega arith)
    ]
