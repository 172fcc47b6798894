use Rattle.std.proofs.Common.{◌≡◌, length, take}
use Rattle.nbody_model.specs.Steps.{kicked_bodies}
use Rattle.kick_drift.specs.Parts.{ids_at, change_of}
use Rattle.kick_drift.proofs.kicks.put_all.Given as goal

abbrev pub invariant-loop-k : goal.invariant-loop-k
invariant-loop-k l = (length l.set ≡ length l.initial.set) × (l.set ≡ kicked_bodies l.h (ids_at l.initial.set (take l.k l.whole)) (change_of (ids_at l.initial.set l.whole) l.f (ids_at l.initial.set l.fast) l.g) l.initial.set)
