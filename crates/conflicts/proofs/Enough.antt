-- One look ahead is enough where no items conflict, and if every name is of use only there.
use Rattle.std.proofs.Common.{◌≡◌, ℕ, zero, suc, Bool, true, false, eqb, List, [], sym, refl, subst}
use Rattle.std.proofs.lemmas.Bool.{eqb-true, eqb-false}
use Rattle.grammar.specs.Grammar.{Sym, Grammar, AllUseful, Clash, Clashes, Enough}
use Rattle.grammar.proofs.Lists.{never}
use Rattle.grammar.proofs.Sizes.{Sizes, sizes}
use Rattle.items.specs.Items.{Valid}
use Rattle.conflicts.specs.Conflicts.{NoConflict}
use Rattle.conflicts.specs.Statements.{Conflict, by_reduce, by_shift, ClashesAreConflicts, EnoughIsNoConflict}
use Rattle.conflicts.proofs.Pairs.{both_valid}
use Rattle.conflicts.proofs.Found.{conflict_of_clash}
use Rattle.conflicts.proofs.Shown.{clash_reduce, clash_shift}

-- A CONFLICT, AND ITS CLASH
pub clash_of_conflict : (g : Grammar) → Sizes g → AllUseful g → (c : Clash) → Conflict g c → Clashes g c
clash_of_conflict g s useful c (by_reduce ne b) = let p = both_valid b in clash_reduce g s p.1 p.2 ne
clash_of_conflict g s useful c (by_shift e b) =
    let p = both_valid b in
    subst (λ q. Clashes g (record { due = c.due; other = q; ahead = c.ahead })) (sym e) (clash_shift g s useful p.1 p.2)

pub clashes_are_conflicts_lem : ClashesAreConflicts
unfolding ClashesAreConflicts
clashes_are_conflicts_lem g c h = (conflict_of_clash g (sizes g h) c, λ useful k. clash_of_conflict g (sizes g h) useful c k)

-- NO CONFLICT
pub enough : (g : Grammar) → Sizes g → NoConflict g → Enough g
unfolding Enough
enough g s once c k = go (conflict_of_clash g s c k)
  where
    go : Conflict g c → zero ≡ suc zero
    go (by_reduce ne b) = let p = both_valid b in absurd (eqb-false c.other c.due ne (sym (once.reduce_reduce p.1 p.2)))
    go (by_shift e b) = let p = both_valid b in absurd (once.shift_reduce p.1 p.2)

pub no_conflict : (g : Grammar) → Sizes g → AllUseful g → Enough g → NoConflict g
unfolding Enough
no_conflict g s useful h = record { reduce_reduce = λ v w. same v w; shift_reduce = λ v w. never (h _ (clash_shift g s useful v w)) }
  where
    same : {γ : List Sym} {r q t : ℕ} → Valid g γ r [] t → Valid g γ q [] t → r ≡ q
    same {γ} {r} {q} v w = go (eqb r q) refl
      where
        go : (b : Bool) → eqb r q ≡ b → r ≡ q
        go true e = eqb-true r q e
        go false e = never (h _ (clash_reduce g s w v e))

pub enough_is_no_conflict_lem : EnoughIsNoConflict
unfolding EnoughIsNoConflict
enough_is_no_conflict_lem g h = (enough g (sizes g h), no_conflict g (sizes g h))
