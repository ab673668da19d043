-- The item sets of the smallest grammar, counted by hand, and its table evaluated.
use Rattle.std.proofs.Common.{◌≡◌, ℕ, zero, suc, ◌<◌, true, ◌⊎◌, List, [], ◌∷◌, length, sym, refl, ap, ◌∙◌, subst, inl, inr, arith}
use Rattle.grammar.specs.Grammar.{Sym, sign, rule, every, added_up, begins_well, later_fit, sym_fits, a_grammar}
use Rattle.grammar.proofs.Lists.{never}
use Rattle.items.specs.Items.{onto, Valid, start, advance, close}
use Rattle.items.proofs.Stacks.{onto_back}
use Rattle.tables.specs.Sets.{Viable, Alike, Sets}
use Rattle.tables.specs.ByTable.{now_fine, now_wrong, on_shift, on_reduce, shift_to, goto_over, by_entry, table_step}
use Rattle.tables.specs.Smallest.{smallest, SmallestSo}
use Rattle.tables.proofs.Standing.{viable_item, item_viable, alike_turned, same_alike}
use Rattle.tables.proofs.Kernels.{first_is_alone_lem}
use Rattle.tables.specs.Statements.{FirstIsAlone}

fits : a_grammar smallest ≡ true
unfolding begins_well later_fit every sym_fits added_up
fits = refl

-- an item is the rule before its sign, or behind it
abbrev Known : List Sym → List Sym → Type 0
Known γ β = ((γ ≡ []) × (β ≡ sign 0 ∷ [])) ⊎ ((γ ≡ sign 0 ∷ []) × (β ≡ []))

known : {γ : List Sym} {r : ℕ} {β : List Sym} {t : ℕ} → Valid smallest γ r β t → Known γ β
unfolding rule
known start = inl (refl, refl)
known (advance {γ = γ} {x = x} {β = β} v) = elim (known v) [
  | inl p ↦ (let e : x ≡ sign 0 = cc in let f : β ≡ [] = cc in let z : x ∷ γ ≡ sign 0 ∷ [] = cc in inr (z, f))
  | inr p ↦ never (cc)
]
known (close q lt l v D) = elim (known v) [ inl p ↦ never (cc) | inr p ↦ never (cc) ]

row_of : (f : List Sym) → Viable smallest f → (f ≡ []) ⊎ (f ≡ sign 0 ∷ [])
row_of f v = elim (known (viable_item smallest fits f v).3) [
  | inl p ↦ inl (sym (onto_back f) ∙ ap (λ l. onto l []) p.0)
  | inr p ↦ inr (sym (onto_back f) ∙ ap (λ l. onto l []) p.0)
]

two_sets : Sets smallest 2
unfolding FirstIsAlone rule
two_sets =
    record {
      number = length;
      below = λ f v. elim (row_of f v) [ inl e ↦ omega (arith, ap length e) | inr e ↦ omega (arith, ap length e) ];
      used = used;
      alike = λ f h v w e. same_alike smallest fits f h (same f h (row_of f v) (row_of h w) e);
      one = λ f h v w a. one f h a (row_of f v) (row_of h w);
    }
  where
    used : (k : ℕ) → k < 2 → (f : List Sym) × Viable smallest f × (length f ≡ k)
    used zero h = ([], (first_is_alone_lem smallest fits).0, refl)
    used (suc zero) h = (sign 0 ∷ [], item_viable smallest fits (sign 0 ∷ []) (0, [], 24, advance start), refl)
    used (suc (suc k)) h = absurd (omega arith)

    same : (f h : List Sym) → (f ≡ []) ⊎ (f ≡ sign 0 ∷ []) → (h ≡ []) ⊎ (h ≡ sign 0 ∷ []) → length f ≡ length h → f ≡ h
    same f h (inl e) (inl k) l = e ∙ sym k
    same f h (inl e) (inr k) l = absurd (omega (arith, l, ap length e, ap length k))
    same f h (inr e) (inl k) l = absurd (omega (arith, l, ap length e, ap length k))
    same f h (inr e) (inr k) l = e ∙ sym k

    alone : (f h : List Sym) → Alike smallest f h → f ≡ [] → h ≡ []
    alone f h a e = (first_is_alone_lem smallest fits).1 h (subst (λ x. Alike smallest x h) e a)

    one : (f h : List Sym) → Alike smallest f h → (f ≡ []) ⊎ (f ≡ sign 0 ∷ []) → (h ≡ []) ⊎ (h ≡ sign 0 ∷ []) → length f ≡ length h
    one f h a (inl e) k = ap length (e ∙ sym (alone f h a e))
    one f h a (inr e) (inl k) = ap length (alone h f (alike_turned smallest fits f h a) k ∙ sym k)
    one f h a (inr e) (inr k) = ap length (e ∙ sym k)

pub smallest_so_lem : SmallestSo
unfolding SmallestSo table_step by_entry shift_to goto_over rule
smallest_so_lem = (two_sets, on_shift _ _ refl (on_reduce 0 _ _ refl (now_fine refl)), on_shift _ _ refl (now_wrong refl))
