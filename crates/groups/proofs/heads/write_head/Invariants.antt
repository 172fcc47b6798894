use Rattle.std.proofs.Common.{take}
use Rattle.groups.specs.Spreading.{IsWritten}
use Rattle.groups.proofs.heads.write_head.Given as goal

abbrev pub invariant-loop-e : goal.invariant-loop-e
invariant-loop-e l = IsWritten l.p (take l.e l.list) l.fn.heads l.heads
