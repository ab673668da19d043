-- What every form of a grammar keeps: its names are the grammar's, and past the beginning its symbols fit.
use Rattle.std.proofs.Common.{◌≡◌, ℕ, ◌<◌, Bool, true, false, ◌&&◌, eqb, ltb, ◌⊎◌, List, [], ◌∷◌, ◌++◌, length, sym, refl, ap, ◌∙◌, subst, inl, inr, append-nil}
use Rattle.std.proofs.lemmas.Bool.{and_parts, and_from, ltb-true}
use Rattle.grammar.specs.Grammar.{pick, every, each, Sym, name, Grammar, rule, signs, form, Makes, comes_by, by_rule, last_name, first_split, put_before, here_or, sym_fits, in_grammar}
use Rattle.grammar.proofs.Lists.{never, nil_not_cons, every_append, every_parts}
use Rattle.grammar.proofs.Derivations.{comes_by_none, first_step}
use Rattle.grammar.proofs.Sizes.{Sizes, right_fits}
use Rattle.grammar.proofs.Useful.{known, left_in, right_known}

-- what a right side has if its name has it, derivations keep
pub kept : (g : Grammar) (p : Sym → Bool) → ((r : ℕ) → r < length g → p (name (rule g r).left) ≡ true → every p (rule g r).right ≡ true) →
    (ds : List ℕ) (f h : List Sym) → comes_by g ds (f ∷ []) ≡ h ∷ [] → every p f ≡ true → every p h ≡ true
unfolding comes_by every
kept g p ok [] f h e q = let x : f ≡ h = cc in rw x at q
kept g p ok (d ∷ ds) f h e q =
    let s = first_step g d ds f h [] e in
    let t = s.1 in
    let all : every p (t.front ++ name t.it ∷ signs t.tail) ≡ true = rw t.is at q in
    let u = every_parts p t.front (name t.it ∷ signs t.tail) all in
    let v = and_parts (p (name t.it)) (every p (signs t.tail)) u.1 in
    let at : p (name (rule g d).left) ≡ true = ap (λ n. p (name n)) t.fits ∙ v.0 in
    let w = every_append p (t.front ++ (rule g d).right) (signs t.tail) (every_append p t.front (rule g d).right u.0 (ok d t.there at)) v.1 in
    kept g p ok ds s.0 h s.2 (rw t.gives w)

pub form_known : (g : Grammar) → Sizes g → (ds : List ℕ) (f : List Sym) → form g ds ≡ f ∷ [] → every (known g) f ≡ true
unfolding every known
form_known g s ds f e =
    let zero_in : in_grammar g 0 ≡ true = subst (λ n. in_grammar g n ≡ true) s.zero_left (left_in g 0 s.rules) in
    kept g (known g) (λ r _ _. right_known g r) ds (name 0 ∷ []) f e (and_from (in_grammar g 0) true zero_in refl)

-- name 0 fits nowhere, so only the empty derivation keeps it
pub form_fits : (g : Grammar) → Sizes g → (ds : List ℕ) (f : List Sym) → form g ds ≡ f ∷ [] → (ds ≡ []) ⊎ (every sym_fits f ≡ true)
unfolding comes_by by_rule last_name first_split put_before here_or
form_fits g s [] f e = inl refl
form_fits g s (d ∷ ds) f e = inr (go _ refl e)
  where
    go : (b : Bool) → (ltb d (length g) && eqb (rule g d).left 0) ≡ b → comes_by g ds (pick b (((rule g d).right ++ []) ∷ []) []) ≡ f ∷ [] → every sym_fits f ≡ true
    go true t k =
        let l = ltb-true d (length g) (and_parts (ltb d (length g)) (eqb (rule g d).left 0) t).0 in
        kept g sym_fits (λ r h _. right_fits g r h s.fitting) ds ((rule g d).right ++ []) f k (rw append-nil (right_fits g d l s.fitting))
    go false t k = absurd (nil_not_cons (sym (comes_by_none g ds) ∙ k))

signs_not_name : (ts : List ℕ) (n : ℕ) (f : List Sym) → name n ∷ f ≡ signs ts → ⊥
unfolding each
signs_not_name [] n f e = never (cc)
signs_not_name (t ∷ ts) n f e = never (cc)

pub text_fits : (g : Grammar) → Sizes g → (ds ts : List ℕ) → Makes g ds ts → every sym_fits (signs ts) ≡ true
unfolding Makes comes_by
text_fits g s [] ts m = absurd (signs_not_name ts 0 [] (cc))
text_fits g s (d ∷ ds) ts m = elim (form_fits g s (d ∷ ds) (signs ts) m) [
  | inl e ↦ never (cc)
  | inr h ↦ h
]
