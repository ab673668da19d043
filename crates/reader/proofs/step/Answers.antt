use Rattle.std.proofs.Common.{arith}
use Rattle.reader.specs.Laid.{layout_of}
use Rattle.reader.proofs.Main.{whole}
use Rattle.reader.proofs.Refusals.{next_told, none_refused, what_next_refused, load_told, read_told}
use Rattle.reader.proofs.Telling.{not_told, told_next, told_said, as_long, sizes}
use Rattle.reader.proofs.step.Goals as goal

pub returns-then-not-sizes_fit : goal.returns-then-not-sizes_fit
returns-then-not-sizes_fit c = record { says = not_told _ _ _ _ c.if-not-sizes_fit.ensures; whole = whole }

pub go_on-requires : goal.go_on-requires
go_on-requires c =
    let z = sizes c.args.memory.now c.args.kind c.args.text.now c.args.out.now c.if-not-sizes_fit.ensures in
    record { lent = omega (arith, as_long _ _ c.own-regions.ensures z.own_size, c.own-regions.result.apart, c.own-regions.result.within); room = z.room }

pub returns-then-kind-eq1 : goal.returns-then-kind-eq1
returns-then-kind-eq1 c =
    let l = layout_of c.own-regions.result in
    record {
      says = told_next _ _ _ _ c.if-not-sizes_fit.ensures l c.own-regions.ensures _ _ _ c.if-kind-eq1.true (next_told l _ c.args.text.now _ _ _ _ c.go_on.ensures);
      whole = whole;
    }

pub load-requires : goal.load-requires
load-requires c =
    let z = sizes c.args.memory.now c.args.kind c.args.text.now c.args.out.now c.if-not-sizes_fit.ensures in
    let d = rw c.in-Load.is at c.in-Some.ensures in
    record { grammar = d.2; long = as_long _ _ c.own-regions.ensures z.own_size; room = z.room }

pub returns-in-Load : goal.returns-in-Load
returns-in-Load c =
    let l = layout_of c.own-regions.result in
    let d = rw c.in-Load.is at c.in-Some.ensures in
    record {
      says = told_said _ _ _ _ c.if-not-sizes_fit.ensures l c.own-regions.ensures _ _ _ c.if-kind-eq1.false (λ i. (c.type_inv.text i).fits)
          (load_told l _ _ _ _ _ _ _ d.0 c.load.ensures);
      whole = whole;
    }

pub read-requires : goal.read-requires
read-requires c =
    let z = sizes c.args.memory.now c.args.kind c.args.text.now c.args.out.now c.if-not-sizes_fit.ensures in
    let d = rw c.in-Read.is at c.in-Some.ensures in
    record { text = d.2; lent = omega (arith, as_long _ _ c.own-regions.ensures z.own_size, c.own-regions.result.apart, c.own-regions.result.within); room = z.room }

pub returns-in-Read : goal.returns-in-Read
returns-in-Read c =
    let l = layout_of c.own-regions.result in
    let d = rw c.in-Read.is at c.in-Some.ensures in
    record {
      says = told_said _ _ _ _ c.if-not-sizes_fit.ensures l c.own-regions.ensures _ _ _ c.if-kind-eq1.false (λ i. (c.type_inv.text i).fits)
          (read_told l _ _ _ _ _ _ _ d.0 c.read.ensures);
      whole = whole;
    }

pub returns-in-Next : goal.returns-in-Next
returns-in-Next c =
    let l = layout_of c.own-regions.result in
    let d = rw c.in-Next.is at c.in-Some.ensures in
    record {
      says = told_said _ _ _ _ c.if-not-sizes_fit.ensures l c.own-regions.ensures _ _ _ c.if-kind-eq1.false (λ i. (c.type_inv.text i).fits)
          (what_next_refused l _ _ _ _ d.0);
      whole = whole;
    }

pub returns-in_default : goal.returns-in_default
returns-in_default c =
    let l = layout_of c.own-regions.result in
    record {
      says = told_said _ _ _ _ c.if-not-sizes_fit.ensures l c.own-regions.ensures _ _ _ c.if-kind-eq1.false (λ i. (c.type_inv.text i).fits)
          (none_refused l _ _ _ c.in_default.ensures);
      whole = whole;
    }
