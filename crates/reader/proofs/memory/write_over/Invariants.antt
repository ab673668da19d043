use Rattle.std.proofs.Common.{◌≡◌, ◌++◌, take, drop}
use Rattle.reader.proofs.memory.write_over.Given as goal

-- the bytes so far, and the words behind them
abbrev pub invariant-loop-i : goal.invariant-loop-i
invariant-loop-i l = l.words ≡ take l.i l.bytes ++ drop l.i l.initial.words
