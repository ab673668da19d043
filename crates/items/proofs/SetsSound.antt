-- The set of a stack has the shape of an item set, and only valid items in it.
use Rattle.std.proofs.Common.{◌≡◌, ℕ, ◌^◌, true, List, [], ◌∷◌, get_or, drop, sym, refl, ◌∙◌, subst, subst₂, ⊎_elim, arith}
use Rattle.std.proofs.lemmas.Bool.{and_parts, eqb-true}
use Rattle.words.specs.Bits.{has_bit}
use Rattle.words.specs.Rows.{or_at}
use Rattle.words.proofs.BitLaws.{has_pow, has_nonzero}
use Rattle.words.proofs.RowLaws.{or_at_cases}
use Rattle.grammar.specs.Grammar.{every, Sym, Grammar, rule, a_grammar, AllUseful}
use Rattle.grammar.specs.Spelling.{sym_spelled}
use Rattle.grammar.specs.Places.{rest, owner, first_place_lem, At}
use Rattle.grammar.proofs.Places.{place_zero, place_first, place_next, rest_fits}
use Rattle.items.specs.Items.{Valid, start, advance}
use Rattle.items.specs.Sets.{no_items, begun_ahead, advanced_set, goto, start_set, stackable, set_of, IsItemSet}
use Rattle.items.proofs.First.{close_by_first}
use Rattle.items.proofs.ClosedSets.{nothing_in_none, item_set_none, item_set_or_at, Keeps, closure_keeps, closure_shape}
use Rattle.items.proofs.AdvancedSets.{next_from_code, advanced_shape, advanced_cases}
use Rattle.items.proofs.Begun.{next_name, behind_below, first_of_begun}

valid_at : {g : Grammar} {γ : List Sym} {p r : ℕ} {β : List Sym} {t : ℕ} → At g p r β → Valid g γ r β t → Valid g γ (owner g p) (rest g p) t
valid_at {g} {γ} {t = t} a v = subst₂ (λ k δ. Valid g γ k δ t) (sym a.owned) (sym a.rests) v

module _ (g : Grammar) (fits : a_grammar g ≡ true) where
  pub kernel_shape : IsItemSet g (or_at no_items 0 (2 ^ 24))
  kernel_shape = item_set_or_at (item_set_none g) 0 (2 ^ 24) (place_zero g fits).within (omega arith)

  pub set_shape : (γ : List Sym) → every stackable γ ≡ true → IsItemSet g (set_of g γ)
  unfolding set_of start_set goto every
  set_shape [] h = closure_shape g (behind_below g fits) (or_at no_items 0 (2 ^ 24)) kernel_shape
  set_shape (x ∷ γ) h =
      let k = and_parts (stackable x) (every stackable γ) h in
      closure_shape g (behind_below g fits) (advanced_set g (sym_spelled x) (set_of g γ))
      (advanced_shape g fits x k.0 (set_of g γ) (set_shape γ k.1))

-- whatever stands in s is valid behind γ
abbrev pub Sound : Grammar → List Sym → List ℕ → Type 0
Sound g γ s = (p t : ℕ) → has_bit t (get_or s p 0) ≡ true → Valid g γ (owner g p) (rest g p) t

module _ (g : Grammar) (fits : a_grammar g ≡ true) (useful : AllUseful g) where
  begun_sound : (γ : List Sym) → Keeps g (Sound g γ)
  begun_sound γ p k s u hp hk b sound so_far q t h =
      ⊎_elim (λ x. so_far q t x)
      (λ x.
      let n = next_name (rule g k).left (rest g p) b in
      let f = first_of_begun g fits p (rule g k).left (drop 1 (rest g p)) n (get_or s p 0) t x.2 in
      let v = subst (λ δ. Valid g γ (owner g p) δ f.0) n (sound p f.0 f.1) in
      let a = subst (λ z. At g z k (rule g k).right) (sym x.0) (place_first g k hk) in
      valid_at a (close_by_first useful t k hk refl v f.2))
      (or_at_cases u (first_place_lem g k) (begun_ahead g p (get_or s p 0)) q t h)

  start_sound : Sound g [] (or_at no_items 0 (2 ^ 24))
  start_sound p t h =
      ⊎_elim (λ x. absurd (has_nonzero (get_or no_items p 0) t x (nothing_in_none p)))
      (λ x.
      let e : t ≡ 24 = eqb-true t 24 (sym (has_pow t 24) ∙ x.2) in
      let a = subst (λ z. At g z 0 (rule g 0).right) (sym x.0) (place_zero g fits) in
      valid_at a (subst (λ k. Valid g [] 0 (rule g 0).right k) (sym e) start))
      (or_at_cases no_items 0 (2 ^ 24) p t h)

  advanced_sound : (x : Sym) (γ : List Sym) (s : List ℕ) → stackable x ≡ true → Sound g γ s → Sound g (x ∷ γ) (advanced_set g (sym_spelled x) s)
  advanced_sound x γ s k sound q t h =
      let c = advanced_cases g (sym_spelled x) s q t h in
      let n = next_from_code x (rest g c.place) k (rest_fits g c.place fits) c.next in
      let a = subst (λ z. At g z (owner g c.place) n.0) (sym c.one_on) (place_next g c.place x n.0 n.1) in
      valid_at a (advance (subst (λ δ. Valid g γ (owner g c.place) δ t) n.1 (sound c.place t c.bit)))

  pub set_sound : (γ : List Sym) → every stackable γ ≡ true → Sound g γ (set_of g γ)
  unfolding set_of start_set goto every
  set_sound [] h = closure_keeps g (Sound g []) (begun_sound []) (or_at no_items 0 (2 ^ 24)) start_sound
  set_sound (x ∷ γ) h =
      let k = and_parts (stackable x) (every stackable γ) h in
      closure_keeps g (Sound g (x ∷ γ)) (begun_sound (x ∷ γ)) (advanced_set g (sym_spelled x) (set_of g γ))
      (advanced_sound x γ (set_of g γ) k.0 (set_sound γ k.1))
