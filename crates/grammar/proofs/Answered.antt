-- What the analyses answer, in the subject's words: FIRST and nullable behind each place, and whether a name is of use.
use Rattle.std.proofs.Common.{◌≡◌, ℕ, ◌<◌, true, List, [], drop, Some, None, Option, sym, ap, ◌∙◌, ap₂, arith}
use Rattle.std.specs.Prelude.{slice_index_or}
use Rattle.grammar.specs.declared.analysis.Analysis.{Analysis}
use Rattle.grammar.specs.declared.table.Table.{Table}
use Rattle.grammar.specs.Grammar.{Grammar, a_grammar}
use Rattle.grammar.specs.Places.{places, rest}
use Rattle.grammar.specs.Rows.{vanishing, opening}
use Rattle.grammar.specs.Table.{Shows}
use Rattle.grammar.specs.Analysis.{nullable, firsts, behind, passes, useless}
use Rattle.grammar.specs.Analysed.{Analysed, ExactBehind, listed, Judged, no_behind, IsBehind}
use Rattle.grammar.proofs.Places.{places_bound}
use Rattle.grammar.proofs.FirstKnown.{first_known}
use Rattle.grammar.proofs.Useless.{useless_none, useless_some}

-- what is known of each place makes an analysis
pub analysed_each : {t : Table} {g : Grammar} {N : ℕ} {F : List ℕ} (a : Analysis) → Shows t g → N ≡ nullable g → F ≡ firsts g →
    ((p : ℕ) → p < 192 → IsBehind t N F p (slice_index_or a.places p no_behind)) → Analysed g a
unfolding behind passes
analysed_each {g = g} a s e q f =
    let within : (p : ℕ) → p < places g → p < 192 = λ p k. omega (arith, places_bound g s.fits) in
    record {
      behind = λ p k. (f p (within p k)).signs g s k ∙ ap₂ (λ N F. opening N F (drop 1 (rest g p))) e q;
      passes = λ p k. (f p (within p k)).vanishes g s k ∙ ap (λ N. vanishing N (drop 1 (rest g p))) e;
    }

pub exact_behind : {g : Grammar} {a : Analysis} → a_grammar g ≡ true → Analysed g a → ExactBehind g a
exact_behind {g} fits x =
    let known = first_known g fits in
    record {
      opens = λ p u h. rw (x.behind p h) (known.behind_opens p u, known.opens_behind p u);
      vanishes = λ p h. rw (x.passes p h) (known.passes_vanishes p, known.vanishes_passes p);
    }

pub judged : (g : Grammar) (r : Option ℕ) → a_grammar g ≡ true → listed r ≡ useless g → Judged g r
judged g None fits e = useless_none g fits (sym e)
judged g (Some n) fits e = useless_some g fits n [] (sym e)
