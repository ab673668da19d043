-- A table filled from bytes, rule by rule: it holds the rules that are read, and what is left of the bytes spells the others.
use Rattle.std.proofs.Common.{◌≡◌, ℕ, ◌+◌, ◌<◌, ◌≤◌, true, List, [], ◌∷◌, ◌++◌, length, get_or, take, drop, sym, refl, ap, ◌∙◌, subst, append_assoc, append-nil, arith, length-append, take_at, drop_at}
use Rattle.grammar.specs.declared.table.Table.{Table}
use Rattle.grammar.specs.Grammar.{each, Rule, Grammar, a_grammar}
use Rattle.grammar.specs.Spelling.{sym_spelled, flat, rule_spelled, grammar_spelled, grammar_of}
use Rattle.grammar.specs.Places.{places}
use Rattle.grammar.specs.Table.{Holds, Shows, Added}
use Rattle.grammar.proofs.Spelled.{length_each}
use Rattle.grammar.proofs.Sizes.{sizes}
use Rattle.grammar.proofs.Places.{places_bound}
use Rattle.grammar.proofs.Pushed.{places_append}
use Rattle.grammar.proofs.Tables.{holds_push}

pub record Sofar (bs rest : List ℕ) (t : Table) : Type 0 where
  pub done : Grammar
  pub left : Grammar
  pub whole : done ++ left ≡ grammar_of bs
  pub spelled : flat rule_spelled left ≡ rest
  pub holds : Holds t done

-- one rule comes next
record Next (bs rest : List ℕ) (t : Table) : Type 0 where
  pub done : Grammar
  pub next : Rule
  pub later : Grammar
  pub whole : done ++ next ∷ later ≡ grammar_of bs
  pub name : get_or rest 0 0 ≡ next.left
  pub count : get_or rest 1 0 ≡ length next.right
  pub behind : drop 2 rest ≡ each sym_spelled next.right ++ flat rule_spelled later
  pub holds : Holds t done

next_rule_lem : {bs rest : List ℕ} {t : Table} (done left : Grammar) → done ++ left ≡ grammar_of bs → flat rule_spelled left ≡ rest → Holds t done →
    2 ≤ length rest → Next bs rest t
unfolding flat
next_rule_lem done [] w s h k = absurd (omega (arith, ap length s))
next_rule_lem done (r ∷ left) w s h k =
    record {
      done = done;
      next = r;
      later = left;
      whole = w;
      name = ap (λ xs. get_or xs 0 0) (sym s);
      count = ap (λ xs. get_or xs 1 0) (sym s);
      behind = ap (drop 2) (sym s);
      holds = h;
    }

pub sofar_none : (bs rest : List ℕ) (t : Table) → grammar_spelled (grammar_of bs) ≡ bs → drop 1 bs ≡ rest → Holds t [] → Sofar bs rest t
sofar_none bs rest t s e h =
    record { done = []; left = grammar_of bs; whole = refl; spelled = ap (drop 1) s ∙ e; holds = h }

-- the first two bytes of the rest, and the bytes behind them, cut where the rule ends
module _ {bs rest : List ℕ} {t : Table} (s : Sofar bs rest t) (k : 2 ≤ length rest) where
  n : Next bs rest t
  n = next_rule_lem s.done s.left s.whole s.spelled s.holds k

  count_row : get_or rest 1 0 ≡ length (each sym_spelled n.next.right)
  count_row = n.count ∙ sym (length_each sym_spelled n.next.right)

  pub row_within : get_or rest 1 0 ≤ length (drop 2 rest)
  row_within = omega (arith, count_row, ap length n.behind, length-append (each sym_spelled n.next.right) (flat rule_spelled n.later))

  row_is : take (get_or rest 1 0) (drop 2 rest) ≡ each sym_spelled n.next.right
  row_is = ap (take (get_or rest 1 0)) n.behind ∙ take_at _ (flat rule_spelled n.later) _ (sym count_row)

  later_is : drop (get_or rest 1 0) (drop 2 rest) ≡ flat rule_spelled n.later
  later_is = ap (drop (get_or rest 1 0)) n.behind ∙ drop_at (each sym_spelled n.next.right) _ _ (sym count_row)

  pub rule_room : a_grammar (grammar_of bs) ≡ true → t.rules < 64
  rule_room a =
      omega (arith, (sizes (grammar_of bs) a).many, ap length n.whole, length-append n.done (n.next ∷ n.later), n.holds.rules)

  pub place_room : a_grammar (grammar_of bs) ≡ true → (row : List ℕ) → row ≡ take (get_or rest 1 0) (drop 2 rest) → t.places + length row < 192
  unfolding places
  place_room a row e =
      omega (
        arith,
        places_bound (grammar_of bs) a,
        ap places n.whole,
        places_append n.done (n.next ∷ n.later),
        n.holds.places,
        ap length (e ∙ row_is),
        length_each sym_spelled n.next.right,
      )

  pub sofar_more : (row later : List ℕ) (u : Table) → row ≡ take (get_or rest 1 0) (drop 2 rest) → later ≡ drop (get_or rest 1 0) (drop 2 rest) →
      Added t (get_or rest 0 0) row u → Sofar bs later u
  sofar_more row later u er el a =
      let added : Added t n.next.left (each sym_spelled n.next.right) u =
      subst (λ l. Added t l (each sym_spelled n.next.right) u) n.name (subst (λ xs. Added t (get_or rest 0 0) xs u) (er ∙ row_is) a) in
      record {
        done = n.done ++ n.next ∷ [];
        left = n.later;
        whole = append_assoc n.done (n.next ∷ []) n.later ∙ n.whole;
        spelled = sym (el ∙ later_is);
        holds = holds_push n.next n.holds added;
      }

none_left : (left : Grammar) (rest : List ℕ) → flat rule_spelled left ≡ rest → length rest < 2 → left ≡ []
unfolding flat
none_left [] rest s k = refl
none_left (r ∷ left) rest s k = absurd (omega (arith, ap length s))

pub sofar_all : {bs rest : List ℕ} {t : Table} → Sofar bs rest t → length rest < 2 → a_grammar (grammar_of bs) ≡ true → Shows t (grammar_of bs)
sofar_all {bs} {rest} {t} s k a =
    let e : s.done ≡ grammar_of bs = sym (append-nil s.done) ∙ ap (λ xs. s.done ++ xs) (sym (none_left s.left rest s.spelled k)) ∙ s.whole in
    record { fits = a; holds = subst (λ g. Holds t g) e s.holds }
