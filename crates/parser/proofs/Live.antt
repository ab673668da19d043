-- A valid item is live: its rule can be brought to its end, and from there the run goes on to accept.
use Rattle.std.proofs.Common.{◌≡◌, ℕ, List, [], ◌∷◌, ◌++◌, sym, refl, ap, ◌∙◌, subst, append-nil}
use Rattle.grammar.specs.Grammar.{Sym, sign, name, Grammar, rule}
use Rattle.grammar.specs.Trees.{Yields}
use Rattle.grammar.proofs.Lists.{never}
use Rattle.items.specs.Items.{onto, lookahead, Valid, start, advance, close}
use Rattle.items.proofs.Stacks.{lookahead_append}
use Rattle.items.proofs.Items.{advanced}
use Rattle.parser.specs.Runs.{Run, stay, shift, reduce}
use Rattle.parser.specs.Moves.{CanShift}
use Rattle.parser.proofs.Runs.{run_append, run_part}

-- behind the rule stands some `more`, with which the run is accepted
pub record Live (g : Grammar) (γ : List Sym) (r : ℕ) (β : List Sym) (t : ℕ) : Type 0 where
  pub below : List Sym
  pub fits : onto β γ ≡ onto (rule g r).right below
  pub more : List ℕ
  pub looks : lookahead more ≡ t
  pub rules : List ℕ
  pub on : Run g (name (rule g r).left ∷ below) more (name (rule g 0).left ∷ []) [] rules

-- what is still to come, then the rule, then the rest
pub live_run : {g : Grammar} {γ : List Sym} {r : ℕ} {β : List Sym} {t : ℕ} {v rs : List ℕ} → Valid g γ r β t → Yields g β v rs → (l : Live g γ r β t) →
    Run g γ (v ++ l.more) (name (rule g 0).left ∷ []) [] (rs ++ r ∷ l.rules)
live_run {g} {γ} {r} {β} {t} {v} {rs} val D l =
    let e : lookahead (l.more ++ []) ≡ t = ap lookahead (append-nil l.more) ∙ l.looks in
    let R : Run g γ v (onto β γ) l.more rs = run_part D l.more val l.looks in
    let at : Valid g (onto β γ) r [] (lookahead (l.more ++ [])) = subst (λ x. Valid g (onto β γ) r [] x) (sym e) (advanced β val) in
    run_append l.more (sym (append-nil l.more)) R (reduce r l.below at l.fits l.on)

pub live : {g : Grammar} {γ : List Sym} {r : ℕ} {β : List Sym} {t : ℕ} → Valid g γ r β t → Live g γ r β t
live start = record { below = []; fits = refl; more = []; looks = refl; rules = []; on = stay }
live (advance v) = let l = live v in record { below = l.below; fits = l.fits; more = l.more; looks = l.looks; rules = l.rules; on = l.on }
live {g} {γ} (close {r = r} {n = n} {β = β} {t = t} {v = w} {rs = rs} q lt e v D) =
    let l = live v in
    let l₁ : Live g (name n ∷ γ) r β t = record { below = l.below; fits = l.fits; more = l.more; looks = l.looks; rules = l.rules; on = l.on } in
    record {
      below = γ;
      fits = refl;
      more = w ++ l.more;
      looks = lookahead_append w l.more t l.looks;
      rules = rs ++ r ∷ l.rules;
      on = subst (λ k. Run g (name k ∷ γ) (w ++ l.more) (name (rule g 0).left ∷ []) [] (rs ++ r ∷ l.rules)) (sym e) (live_run (advance v) D l₁);
    }

-- rules are reduced and then the sign t is shifted, whatever comes behind it
pub record ShiftsNext (g : Grammar) (γ : List Sym) (t : ℕ) : Type 0 where
  pub top : List Sym
  pub can : CanShift g top t
  pub rules : List ℕ
  pub run : (σ : List ℕ) → Run g γ (t ∷ []) (sign t ∷ top) σ rules

pub shifts_next : {g : Grammar} {γ γ' : List Sym} {us ρ rs : List ℕ} (t : ℕ) (vs : List ℕ) → us ≡ t ∷ vs → Run g γ us γ' ρ rs → ShiftsNext g γ t
shifts_next t vs z stay = never (cc)
shifts_next {g} {γ} t vs z (shift {t = s} {r = r} {β = β} {u = u} v R) =
    let e : s ≡ t = cc in
    let v₁ : Valid g γ r (sign t ∷ β) u = subst (λ x. Valid g γ r (sign x ∷ β) u) e v in
    record { top = γ; can = (r, β, u, v₁); rules = []; run = λ σ. shift v₁ stay }
shifts_next {g} {γ} {ρ = ρ} t vs z (reduce r a v d R) =
    let n = shifts_next t vs z R in
    let v₁ : Valid g γ r [] t = subst (λ l. Valid g γ r [] (lookahead (l ++ ρ))) z v in
    record { top = n.top; can = n.can; rules = r ∷ n.rules; run = λ σ. reduce r a v₁ d (n.run σ) }
