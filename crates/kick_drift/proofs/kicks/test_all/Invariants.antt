use Rattle.std.proofs.Common.{ℕ, ◌<◌}
use Rattle.kick_drift.specs.Parts.{StaysInRange}
use Rattle.kick_drift.proofs.kicks.test_all.Given as goal

abbrev pub invariant-loop-k : goal.invariant-loop-k
invariant-loop-k l = (j : ℕ) → j < l.k → StaysInRange l.h l.whole l.f l.fast l.g l.set j
