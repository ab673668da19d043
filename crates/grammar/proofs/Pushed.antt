-- A grammar with more rules behind it: its own places stay what they were, and the places of the others come behind them.
use Rattle.std.proofs.Common.{◌≡◌, ℕ, zero, suc, ◌+◌, ◌<◌, List, [], ◌∷◌, ◌++◌, length, get_or, drop, sym, refl, ap, ◌∙◌, inl, inr, arith}
use Rattle.grammar.specs.Grammar.{each, Sym, Rule, Grammar, rule}
use Rattle.grammar.specs.Spelling.{sym_spelled}
use Rattle.grammar.specs.Places.{places, rest, owner, first_place_lem, next_code}
use Rattle.grammar.proofs.Places.{rest_here, owner_here, rest_later, owner_later, here_or_later}

pub places_append : (g h : Grammar) → places (g ++ h) ≡ places g + places h
unfolding places
places_append [] h = omega arith
places_append (r ∷ g) h = omega (arith, places_append g h)

-- the places of the first
pub rest_before : (g h : Grammar) (p : ℕ) → p < places g → rest (g ++ h) p ≡ rest g p
unfolding places
rest_before [] h p k = absurd (omega arith)
rest_before (r ∷ g) h p k =
    elim (here_or_later (length r.right) p) [
      | inl j ↦ rest_here r (g ++ h) p j ∙ sym (rest_here r g p j)
      | inr (q, e) ↦
          let t = rest_before g h q (omega arith) in
          ap (rest (r ∷ g ++ h)) e ∙ rest_later r (g ++ h) q ∙ t ∙ sym (ap (rest (r ∷ g)) e ∙ rest_later r g q)
    ]

pub owner_before : (g h : Grammar) (p : ℕ) → p < places g → owner (g ++ h) p ≡ owner g p
unfolding places
owner_before [] h p k = absurd (omega arith)
owner_before (r ∷ g) h p k =
    elim (here_or_later (length r.right) p) [
      | inl j ↦ owner_here r (g ++ h) p j ∙ sym (owner_here r g p j)
      | inr (q, e) ↦
          let t = owner_before g h q (omega arith) in
          ap (owner (r ∷ g ++ h)) e ∙ owner_later r (g ++ h) q ∙ ap suc t ∙ sym (ap (owner (r ∷ g)) e ∙ owner_later r g q)
    ]

pub first_before : (g h : Grammar) (k : ℕ) → k < length g → first_place_lem (g ++ h) k ≡ first_place_lem g k
unfolding first_place_lem
first_before [] h k l = absurd (omega arith)
first_before (r ∷ g) h zero l = refl
first_before (r ∷ g) h (suc k) l = let t = first_before g h k (omega arith) in omega arith

pub rule_before : (g h : Grammar) (k : ℕ) → k < length g → rule (g ++ h) k ≡ rule g k
unfolding rule
rule_before [] h k l = absurd (omega arith)
rule_before (r ∷ g) h zero l = refl
rule_before (r ∷ g) h (suc k) l = rule_before g h k (omega arith)

-- the places behind them
pub rest_behind : (g h : Grammar) (d : ℕ) → rest (g ++ h) (places g + d) ≡ rest h d
unfolding places
rest_behind [] h d = let e : 0 + d ≡ d = omega arith in ap (rest h) e
rest_behind (r ∷ g) h d =
    let e : suc (length r.right) + places g + d ≡ suc (length r.right) + (places g + d) = omega arith in
    ap (rest (r ∷ g ++ h)) e ∙ rest_later r (g ++ h) (places g + d) ∙ rest_behind g h d

pub owner_behind : (g h : Grammar) (d : ℕ) → owner (g ++ h) (places g + d) ≡ length g + owner h d
unfolding places
owner_behind [] h d = let e : 0 + d ≡ d = omega arith in ap (owner h) e ∙ omega arith
owner_behind (r ∷ g) h d =
    let e : suc (length r.right) + places g + d ≡ suc (length r.right) + (places g + d) = omega arith in
    let t = owner_behind g h d in
    ap (owner (r ∷ g ++ h)) e ∙ owner_later r (g ++ h) (places g + d) ∙ omega arith

pub first_behind : (g : Grammar) (r : Rule) (h : Grammar) → first_place_lem (g ++ r ∷ h) (length g) ≡ places g
unfolding first_place_lem places
first_behind [] r h = refl
first_behind (q ∷ g) r h = let t = first_behind g r h in omega arith

pub rule_behind : (g : Grammar) (r : Rule) (h : Grammar) → rule (g ++ r ∷ h) (length g) ≡ r
unfolding rule
rule_behind [] r h = refl
rule_behind (q ∷ g) r h = rule_behind g r h

-- the byte of what comes next is the row's byte there, or says that the row is complete
pub code_at : (d : ℕ) (β : List Sym) → next_code (drop d β) ≡ get_or (each sym_spelled β) d 64
unfolding next_code each
code_at zero [] = refl
code_at zero (x ∷ β) = refl
code_at (suc d) [] = refl
code_at (suc d) (x ∷ β) = code_at d β
