use Rattle.std.proofs.Common.{sym, ap, ◌∙◌, get_or}
use lib.Bits.{bit_or}
use Rattle.words.specs.Bits.{has_bit, bit_of}
use Rattle.grammar.specs.Rows.{opening}
use Rattle.grammar.proofs.RowBytes.{opened_sign, opened_end, opened_more, opened_all, read_codes}
use Rattle.grammar.proofs.rows.row_opening.Goals as goal

pub returns-in-Sign : goal.returns-in-Sign
returns-in-Sign c =
    read_codes (opening c.args.nullable c.args.firsts.now) c.args.from c.row_at-row.result.now c.row_at-row.ensures _
    (c.with.ensures ∙ ap (λ t. bit_or c.loop-code.signs (bit_of t)) c.from-in-Sign.ensures
    ∙ opened_sign _ _ _ _ _ c.loop-code.invariant c.in-Sign.sign c.loop-code-test.true c.in-Sign.ensures)

pub returns-then-not-test : goal.returns-then-not-test
returns-then-not-test c =
    let passes = c.if-not-test.ensures ∙ ap (λ n. has_bit n c.args.nullable) c.from-in-loop-code-2.ensures in
    read_codes (opening c.args.nullable c.args.firsts.now) c.args.from c.row_at-row.result.now c.row_at-row.ensures _
    (ap (bit_or c.loop-code.signs) (c.at-signs.ensures ∙ ap (λ n. get_or c.args.firsts.now n 0) c.from-in-loop-code.ensures)
    ∙ opened_end _ _ _ _ _ c.loop-code.invariant c.in-Name.name c.loop-code-test.true c.in-Name.ensures (sym passes))

pub loop-code-preserved : goal.loop-code-preserved
loop-code-preserved c =
    let passes = c.if-not-test.ensures ∙ ap (λ n. has_bit n c.args.nullable) c.from-in-loop-code-2.ensures in
    let more = opened_more _ _ _ _ _ c.loop-code.invariant c.in-Name.name c.loop-code-test.true c.in-Name.ensures (sym passes) in
    rw (c.at-signs.ensures, c.from-in-loop-code.ensures) more

pub returns : goal.returns
returns c =
    read_codes (opening c.args.nullable c.args.firsts.now) c.args.from c.row_at-row.result.now c.row_at-row.ensures _
    (opened_all _ _ _ _ _ c.loop-code.invariant c.loop-code-test.false)
