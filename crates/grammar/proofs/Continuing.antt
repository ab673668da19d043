-- If every name is of use: what stands at the end of a form comes to signs, so forms go on to texts, and rules that are twins clash.
use Rattle.std.proofs.Common.{◌≡◌, ℕ, List, [], ◌∷◌, ◌++◌, length, sym, refl, ap, ◌∙◌, inl, append_assoc}
use Rattle.std.proofs.lemmas.Bool.{ne_eqb, eqb-false}
use Rattle.grammar.specs.Grammar.{backwards, Sym, name, Rule, Grammar, rule, signs, form, Makes, Useful, AllUseful}
use Rattle.grammar.specs.Texts.{Begins}
use Rattle.grammar.specs.Statements.{GoesOn, TwinsClash}
use Rattle.grammar.proofs.Lists.{every_parts}
use Rattle.grammar.proofs.Signs.{signs_append}
use Rattle.grammar.proofs.Derivations.{comes_by_then, Step}
use Rattle.grammar.proofs.Trees.{comes_at_end}
use Rattle.grammar.proofs.Sizes.{Sizes, sizes}
use Rattle.grammar.proofs.Useful.{known, known_comes, left_in}
use Rattle.grammar.proofs.Forms.{form_known}
use Rattle.grammar.proofs.Clashing.{EndsApart, steps_clash}

-- whatever stands at the end of a form comes to signs
pub end_comes : (g : Grammar) → Sizes g → AllUseful g → (ds : List ℕ) (a b : List Sym) → form g ds ≡ (a ++ b) ∷ [] →
    (es v : List ℕ) × (form g es ≡ (a ++ signs v) ∷ [])
end_comes g s useful ds a b e =
    let k = (every_parts (known g) a b (form_known g s ds (a ++ b) e)).1 in
    let p = known_comes g useful b k in
    (ds ++ backwards p.1, p.0, comes_by_then g ds (backwards p.1) (name 0 ∷ []) (a ++ b) ((a ++ signs p.0) ∷ []) e (comes_at_end p.2 a))

pub goes_on : GoesOn
unfolding GoesOn Begins Makes
goes_on g ds ts ss a useful e =
    let p = end_comes g (sizes g a) useful ds (signs ts) ss e in
    (p.0, p.1, p.2 ∙ ap (λ x. x ∷ []) (sym (signs_append ts p.1)))

pub twins_clash_lem : TwinsClash
unfolding TwinsClash AllUseful Useful
twins_clash_lem g r q a useful l k ne same =
    let n = (rule g r).left in
    let u = useful n (left_in g r l) in
    let t = end_comes g (sizes g a) useful u.0 (u.3 ++ name n ∷ []) u.4 (rw append_assoc u.5) in
    let f : form g t.0 ≡ (u.3 ++ name n ∷ signs t.1) ∷ [] = rw append_assoc at t.2 in
    let s : Step g r (u.3 ++ name n ∷ signs t.1) (u.3 ++ (rule g r).right ++ signs t.1) =
    record { front = u.3; it = n; tail = t.1; is = refl; there = l; fits = refl; gives = refl } in
    let s₁ : Step g q (u.3 ++ name n ∷ signs t.1) (u.3 ++ (rule g r).right ++ signs t.1) =
    record { front = u.3; it = n; tail = t.1; is = refl; there = k; fits = ap (λ (x : Rule). x.left) (sym same); gives = ap (λ (x : Rule). u.3 ++ x.right ++ signs t.1) same } in
    let apart : EndsApart g r q q u.3 u.3 = inl (refl, ne_eqb q r (λ x. eqb-false r q ne (sym x)), ap (λ (x : Rule). length (u.3 ++ x.right)) (sym same)) in
    (_, steps_clash g t.0 t.0 _ _ _ _ r q f f s s₁ t.1 refl refl q apart)
