-- The set that is computed for a stack is the set of it, and exact.
use Rattle.std.proofs.Common.{◌≡◌, ℕ, true, ◌↔◌, List, [], ◌∷◌, get_or, sym, ◌∙◌, subst, ap₂}
use Rattle.words.specs.Bits.{has_bit}
use Rattle.grammar.specs.Grammar.{Sym, Grammar, a_grammar}
use Rattle.grammar.specs.Spelling.{sym_spelled}
use Rattle.grammar.specs.Places.{owner, rest}
use Rattle.items.specs.Items.{Valid}
use Rattle.items.specs.Sets.{goto, start_set, set_of}
use Rattle.items.specs.Behind.{Behind}
use Rattle.items.proofs.SetsComplete.{set_exact}

behind_so : (g : Grammar) (γ : List Sym) (s : List ℕ) → a_grammar g ≡ true → s ≡ set_of g γ → Behind g γ s
behind_so g γ s fits e =
    record {
      is_set = e;
      exact = λ useful stack p t h.
          subst (λ (u : List ℕ). (has_bit t (get_or u p 0) ≡ true) ↔ Valid g γ (owner g p) (rest g p) t) (sym e) (set_exact g fits useful γ stack p t h);
    }

pub behind_start : (g : Grammar) (s : List ℕ) → a_grammar g ≡ true → s ≡ start_set g → Behind g [] s
unfolding set_of
behind_start g s fits e = behind_so g [] s fits e

pub behind_goto : (g : Grammar) (γ : List Sym) (x : Sym) (s r : List ℕ) (code : ℕ) → a_grammar g ≡ true → r ≡ goto g code s → Behind g γ s → code ≡ sym_spelled x →
    Behind g (x ∷ γ) r
unfolding set_of
behind_goto g γ x s r code fits e b c = behind_so g (x ∷ γ) r fits (e ∙ ap₂ (goto g) c b.is_set)
