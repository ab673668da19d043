-- Without conflicts no run comes back to where it was.
use Rattle.std.proofs.Common.{◌≡◌, ℕ, ◌<◌, List, [], ◌∷◌, ◌++◌, length, sym, refl, ap, ◌∙◌, subst, subst₂, append-nil, arith, length-append}
use Rattle.grammar.specs.Grammar.{Sym, name, Grammar, rule}
use Rattle.grammar.specs.Trees.{empty}
use Rattle.grammar.proofs.Lists.{never}
use Rattle.grammar.proofs.Sizes.{Sizes}
use Rattle.items.specs.Items.{lookahead, Valid}
use Rattle.conflicts.specs.Conflicts.{NoConflict}
use Rattle.parser.specs.Runs.{Run, stay, shift, reduce}
use Rattle.parser.specs.Moves.{Stuck}
use Rattle.parser.proofs.Runs.{run_sees_lookahead}
use Rattle.parser.proofs.Deterministic.{beginning_of_stuck}
use Rattle.parser.proofs.Live.{live, live_run}
use Rattle.parser.proofs.Reached.{accepted_stuck}

-- what is reduced first is live, so that the run to accept would be a beginning of itself with more rules
pub no_repeat : (g : Grammar) → Sizes g → NoConflict g → {γ δ : List Sym} {vs ρ rs : List ℕ} → δ ≡ γ → vs ≡ [] → 0 < length rs → Run g γ vs δ ρ rs → ⊥
no_repeat g s once e z h stay = omega arith
no_repeat g s once e z h (shift v R) = never (cc)
no_repeat g s once {γ} {δ} {vs} {ρ} e z h (reduce {rs = rs} r a v d R) =
    let v₁ : Valid g γ r [] (lookahead ρ) = subst (λ x. Valid g γ r [] (lookahead (x ++ ρ))) z v in
    let l = live v₁ in
    let H : Run g γ l.more (name (rule g 0).left ∷ []) [] (r ∷ l.rules) = live_run v₁ empty l in
    let C : Run g γ [] γ ρ (r ∷ rs) = subst₂ (λ x y. Run g γ x y ρ (r ∷ rs)) z e (reduce r a v d R) in
    let C₁ : Run g γ [] γ (l.more ++ []) (r ∷ rs) = run_sees_lookahead (l.more ++ []) (sym l.looks ∙ ap lookahead (sym (append-nil l.more))) C in
    let last : Stuck g (name (rule g 0).left ∷ []) [] = accepted_stuck g s [] (ap (λ k. name k ∷ []) s.zero_left) in
    let f = beginning_of_stuck g once refl last H C₁ in
    let e₁ : f.shifted ++ [] ≡ l.more ++ [] = ap (λ x. x ++ []) (sym f.shifts_so) in
    let k = beginning_of_stuck g once e₁ last f.run H in
    omega (arith, ap length f.reduces_so, ap length k.reduces_so, length-append (r ∷ rs) f.reduced, length-append (r ∷ l.rules) k.reduced)
