-- Sums as actions: behind some signs an operand is expected, or an operator, so many brackets deep; a sum leads from the one to the other.
use Rattle.std.proofs.Common.{◌≡◌, ℕ, zero, suc, Bool, true, false, eqb, List, [], ◌∷◌, refl, ◌∙◌}
use Rattle.grammar.specs.Grammar.{pick, each, Sym, sign, name, signs}
use Rattle.grammar.specs.Texts.{NotBegins}
use Rattle.grammar.proofs.Lists.{never}
use Rattle.worked.specs.Table.{sums, plus, x, opened, closed}
use Rattle.worked.proofs.Acting.{acts, Agrees, begins_none}

pub data Expects : Type 0 where
  operand : ℕ → Expects
  operator : ℕ → Expects
  wrong : Expects

-- a bracket less, if there is one
unfoldable pub lower : ℕ → Expects
lower zero = wrong
lower (suc d) = operator d

unfoldable pub expect : Expects → Sym → Expects
expect (operand d) (name n) = operator d
expect (operand d) (sign t) = pick (eqb t x) (operator d) (pick (eqb t opened) (operand (suc d)) wrong)
expect (operator d) (name n) = wrong
expect (operator d) (sign t) = pick (eqb t plus) (operand d) (pick (eqb t closed) (lower d) wrong)
expect wrong y = wrong

agrees : (s : Expects) → Agrees expect s sums
unfolding Agrees acts expect lower
agrees (operand d) = (refl, (refl, (refl, (refl, (refl, refl)))))
agrees (operator d) = (refl, (refl, (refl, (refl, (refl, refl)))))
agrees wrong = (refl, (refl, (refl, (refl, (refl, refl)))))

-- what goes wrong begins no sum
pub wrong_begins_none : (ts : List ℕ) → acts expect (operand 0) (signs ts) ≡ wrong → NotBegins sums ts
unfolding expect
wrong_begins_none ts e = begins_none expect sums agrees (operand 0) ts (λ y. rw e) (λ q. let z : operator 0 ≡ wrong = q ∙ e in never (cc))

-- behind x, all but + does
pub behind_x : (t : ℕ) → eqb t plus ≡ false → acts expect (operand 0) (signs (x ∷ t ∷ [])) ≡ wrong
unfolding acts expect lower each
behind_x t h = rw h (none (eqb t closed))
  where
    none : (b : Bool) → pick b (lower 0) wrong ≡ wrong
    none true = refl
    none false = refl
