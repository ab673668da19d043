-- A rule's row and name in a table that shows a grammar, and what marks do as a rule is reckoned with.
use Rattle.std.proofs.Common.{◌≡◌, ℕ, ◌<◌, Bool, List, length, ap, ◌∙◌, ap₂, arith}
use lib.Bits.{bit_or}
use lib.Count.{ones}
use Rattle.words.specs.Iter.{Up}
use Rattle.words.proofs.RowLaws.{or_grows}
use Rattle.grammar.specs.declared.table.Table.{Table}
use Rattle.grammar.specs.Grammar.{pick, Sym, Grammar, rule}
use Rattle.grammar.specs.Places.{places, rest}
use Rattle.grammar.specs.Table.{Shows, ReadOff, first_in}
use Rattle.grammar.proofs.Picks.{up_pick}
use Rattle.grammar.proofs.Places.{place_first}

-- what is read off at a rule's first place is read off its row
pub rule_read : {A : Type 0} {t : Table} {g : Grammar} (f : List Sym → A) {p : ℕ} {r : A} → ReadOff t f p r → Shows t g →
    (k : ℕ) → p ≡ first_in t k → k < length g → r ≡ f (rule g k).right
rule_read {g = g} f {p} read s k e h =
    let a = place_first g k h in
    let q = e ∙ s.holds.firsts k h in
    let w : p < places g = omega (arith, a.within) in
    read g s w ∙ ap f (ap (rest g) q ∙ a.rests)

-- marks stay, or there are more of them
pub up_marks : (b : Bool) (marks more r : ℕ) → r ≡ pick b (bit_or marks more) marks → Up ones marks r
up_marks b marks more r e = rw e (up_pick ones b marks (bit_or marks more) (or_grows marks more))

pub pick_same : {b d : Bool} {x y : ℕ} (marks : ℕ) → b ≡ d → x ≡ y → pick b (bit_or marks x) marks ≡ pick d (bit_or marks y) marks
pick_same marks e q = ap₂ (λ b x. pick b (bit_or marks x) marks) e q
