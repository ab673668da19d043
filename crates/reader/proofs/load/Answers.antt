use Rattle.std.proofs.Common.{ℕ, ◌+◌, [], ◌∷◌, sym, refl, ap, ◌∙◌, ap₂, arith, rules}
use Rattle.grammar.specs.Spelling.{grammar_of}
use Rattle.grammar.proofs.Spelled.{grammar_said}
use Rattle.reader.specs.Memory.{with_phase}
use Rattle.reader.proofs.Lent.{lent_length, lent_cleared}
use Rattle.reader.proofs.Loading.{not_spelled, spelling_short, useless_told, clash_told, loaded_told}
use Rattle.reader.proofs.load.Goals as goal

pub returns-in_default : goal.returns-in_default
returns-in_default c = absurd (not_spelled _ c.requires.grammar c.in_default.ensures)

pub returns-in-Some-useless : goal.returns-in-Some-useless
returns-in-Some-useless c =
    useless_told _ _ _ _ _ _ _ _ c.in-Some-useless.name _ (sym (c.in-Some-useless.ensures.value (grammar_of c.args.spelling.now) c.in-Some.ensures.1))
    (ap (λ (k : ℕ). k ∷ []) c.from.ensures) c.refuses.ensures

pub returns-in-Some-find_clash : goal.returns-in-Some-find_clash
returns-in-Some-find_clash c =
    let r = c.args.regions in
    let m = c.args.memory.now in
    let g = grammar_of c.args.spelling.now in
    let shows = c.in-Some.ensures.1 in
    let long = lent_length r.pairs r.pair_words (r.pairs + r.pair_words) m refl (omega (arith, r.within, c.requires.long)) in
    let all = long ∙ r.pairs_fit in
    let clear = lent_cleared r.pairs r.pair_words r.pairs (r.pairs + r.pair_words) m refl refl c.find_clash.new.work _ (sym r.pairs_fit) (c.find_clash.ensures.cleared all) in
    clash_told r.pairs r.pair_words m c.args.out.now g _ _ _ _ (sym (c.in_default-useless.ensures.value g shows)) clear _ _
    (c.in-Some-find_clash.ensures.value g (c.new-grammar.ensures.value.1 g shows) all)
    (λ i. c.from-in-Some-find_clash.ensures i ∷ (c.from-in-Some-find_clash-2.ensures ∙ c.unwrap_or.ensures) i ∷ c.from-in-Some-find_clash-3.ensures i ∷ [])
    c.refuses-in-Some-find_clash.ensures

pub keep-requires : goal.keep-requires
keep-requires c = (search rules, spelling_short _ c.requires.grammar)

pub returns : goal.returns
returns c =
    let r = c.args.regions in
    let m = c.args.memory.now in
    let g = grammar_of c.args.spelling.now in
    let shows = c.in-Some.ensures.1 in
    let long = lent_length r.pairs r.pair_words (r.pairs + r.pair_words) m refl (omega (arith, r.within, c.requires.long)) in
    let all = long ∙ r.pairs_fit in
    let clear = lent_cleared r.pairs r.pair_words r.pairs (r.pairs + r.pair_words) m refl refl c.find_clash.new.work _ (sym r.pairs_fit) (c.find_clash.ensures.cleared all) in
    loaded_told r.pairs r.pair_words m c.args.out.now g _ _ _ _ (sym (c.in_default-useless.ensures.value g shows)) clear c.args.spelling.now
    (c.in_default-find_clash.ensures.value g (c.new-grammar.ensures.value.1 g shows) all)
    (grammar_said c.args.spelling.now c.requires.grammar).1 refl (ap₂ with_phase c.from-2.ensures c.keep.ensures) refl
