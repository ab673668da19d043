use Rattle.std.proofs.Common.{◌≡◌, ◌-◌, get_or, drop, set, replicate, refl, ap, ◌∙◌, arith, rules, ◌++◌, ◌+◌}
use Rattle.std.proofs.lemmas.Bool.{true≢false, false≢true}
use Rattle.words.specs.Countdown.{value}
use Rattle.words.proofs.Borrows.{highest, value_borrow, value_zeroes}
use Rattle.words.proofs.countdown.tick.Goals as goal

pub returns-in_default : goal.returns-in_default
returns-in_default c =
    record { less = λ e. absurd (false≢true e); done = λ _. (value_zeroes _ (λ k l. c.in_default.ensures k 0 (omega arith) l), refl) }

pub returns : goal.returns
returns c =
    let found = c.in-Some.ensures in
    let full : c.fill.new.self ≡ replicate c.in-Some.place highest = search rules in
    record {
      less = λ _. ap (λ z. value (z ++ drop c.in-Some.place (set c.args.fuel.now c.in-Some.place (get_or c.args.fuel.now c.in-Some.place 0 - 1))) + 1) full
          ∙ value_borrow c.in-Some.place c.args.fuel.now found.0 (found.1 0) (λ k l. found.2 k 0 (omega arith) l);
      done = λ e. absurd (true≢false e);
    }
