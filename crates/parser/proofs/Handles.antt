-- The handle: a complete item has its right side on top of the stack, and a reduction pops it.
use Rattle.std.proofs.Common.{◌≡◌, ℕ, List, [], ◌∷◌, ◌++◌, length, drop, sym, ap, ◌∙◌, arith, drop_at}
use Rattle.grammar.specs.Grammar.{Sym, name, Grammar, rule}
use Rattle.items.specs.Items.{onto, lookahead, Valid}
use Rattle.items.proofs.Stacks.{onto_append, length_onto}
use Rattle.parser.specs.Runs.{Run}
use Rattle.parser.proofs.Runs.{run_push_reduce}
use Rattle.parser.proofs.Live.{live}

pub drop_onto : {A : Type 0} (β a : List A) → drop (length β) (onto β a) ≡ a
drop_onto β a = ap (drop (length β)) (sym (onto_append β [] a)) ∙ drop_at (onto β []) a (length β) (omega (arith, length_onto β []))

pub handle_on_top : {g : Grammar} {γ : List Sym} {r t : ℕ} → Valid g γ r [] t → γ ≡ onto (rule g r).right (drop (length (rule g r).right) γ)
handle_on_top {g} {γ} {r} v =
    let l = live v in
    let δ : List Sym = (rule g r).right in
    l.fits ∙ ap (onto δ) (sym (ap (drop (length δ)) l.fits ∙ drop_onto δ l.below))

pub run_push_pop : {g : Grammar} {γ γ₁ : List Sym} {us ρ rs : List ℕ} (r : ℕ) → Run g γ us γ₁ ρ rs → Valid g γ₁ r [] (lookahead ρ) →
    Run g γ us (name (rule g r).left ∷ drop (length (rule g r).right) γ₁) ρ (rs ++ r ∷ [])
run_push_pop {g} {γ₁ = γ₁} r R v = run_push_reduce r (drop (length (rule g r).right) γ₁) R v (handle_on_top v)
