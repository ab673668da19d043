-- What is known of a grammar that is said: it fits, and its spelling is short and of bytes.
use Rattle.std.proofs.Common.{◌≡◌, ℕ, ◌≤◌, true, ltb, leb, List, ◌∷◌, length, drop, sym, ap, subst}
use Rattle.std.proofs.lemmas.Bool.{and_parts}
use Rattle.grammar.specs.Grammar.{every, Grammar, a_grammar}
use Rattle.grammar.specs.Spelling.{grammar_spelled}
use Rattle.grammar.proofs.Spelled.{grammar_back}
use Rattle.reader.specs.House.{load, spelled, fits}
use Rattle.reader.specs.Promise.{Said}
use Rattle.reader.specs.Machine.{row_fits}
use Rattle.reader.proofs.Loading.{spelling_short}
use Rattle.reader.proofs.MemoryLaws.{every_drop}

pub record Spelling (g : Grammar) : Type 0 where
  pub a_grammar_so : a_grammar g ≡ true
  pub short : length (grammar_spelled g) ≤ 257
  pub bytes : every (λ b. ltb b 256) (grammar_spelled g) ≡ true

tail_of : (k : ℕ) (bs t : List ℕ) → k ∷ bs ≡ t → bs ≡ drop 1 t
tail_of k bs t e = ap (drop 1) e

pub spelling : (t : List ℕ) (g : Grammar) → row_fits t ≡ true → Said t (load g) → Spelling g
unfolding Said spelled fits
spelling t g r s =
    let b = (and_parts (leb (length t) 4097) (every (λ b. ltb b 256) t) r).1 in
    let e : grammar_spelled g ≡ drop 1 t = tail_of 1 (grammar_spelled g) t s.0 in
    record {
      a_grammar_so = s.1;
      short = spelling_short (grammar_spelled g) (grammar_back g s.1).0;
      bytes = subst (λ (l : List ℕ). every (λ b. ltb b 256) l ≡ true) (sym e) (every_drop (λ b. ltb b 256) 1 t b);
    }
