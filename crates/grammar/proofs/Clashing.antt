-- Two steps that end apart, behind the same symbols and with the same sign ahead, are a clash.
use Rattle.std.proofs.Common.{◌≡◌, ℕ, ◌<◌, false, eqb, ◌⊎◌, List, [], ◌∷◌, ◌++◌, length, sym, refl, ◌∙◌}
use Rattle.grammar.specs.Grammar.{Sym, name, Grammar, rule, signs, look, form, Clashes}
use Rattle.grammar.proofs.Signs.{all_signs_signs}
use Rattle.grammar.proofs.Derivations.{Step}

-- behind a the rule r ends; behind b the rule q, another at the same place, or one further on, which 64 stands for
abbrev pub EndsApart : (g : Grammar) (r q other : ℕ) (a b : List Sym) → Type 0
EndsApart g r q other a b =
    ((other ≡ q) × (eqb q r ≡ false) × (length (b ++ (rule g q).right) ≡ length (a ++ (rule g r).right)))
    ⊎ ((other ≡ 64) × (length (a ++ (rule g r).right) < length (b ++ (rule g q).right)))

pub steps_clash : (g : Grammar) (ds es : List ℕ) (m k f h : List Sym) (r q : ℕ) → form g ds ≡ m ∷ [] → form g es ≡ k ∷ [] →
    (s : Step g r m f) (t : Step g q k h) (y : List ℕ) → h ≡ s.front ++ (rule g r).right ++ signs y → look (signs y) ≡ look (signs s.tail) →
    (other : ℕ) → EndsApart g r q other s.front t.front → Clashes g (record { due = r; other = other; ahead = look (signs s.tail) })
unfolding Clashes
steps_clash g ds es m k f h r q d e s t y same looks other apart =
    let d₁ : form g ds ≡ (s.front ++ name s.it ∷ signs s.tail) ∷ [] = rw s.is at d in
    let e₁ : form g es ≡ (t.front ++ name t.it ∷ signs t.tail) ∷ [] = rw t.is at e in (
      ds,
      es,
      s.front,
      signs s.tail,
      t.front,
      signs t.tail,
      signs y,
      s.it,
      t.it,
      q,
      d₁,
      all_signs_signs s.tail,
      s.there,
      s.fits,
      refl,
      e₁,
      all_signs_signs t.tail,
      t.there,
      t.fits,
      sym t.gives ∙ same,
      all_signs_signs y,
      looks,
      apart,
    )
