use Rattle.std.proofs.Common.{◌≡◌, length, take}
use Rattle.nbody_model.specs.Setups.{SetupData}
use Rattle.rewind_laws.specs.Back.{undrift}
use Rattle.kick_drift.specs.Parts.{ids_at}
use Rattle.rewind.proofs.drifts.undrift.Given as goal

abbrev pub invariant-loop-member : goal.invariant-loop-member
invariant-loop-member l = (length l.set ≡ length l.initial.set) × ((s : SetupData) → s.velocity_shift ≡ l.shift → l.set ≡ undrift s (ids_at l.initial.set (take l.member-index l.members)) l.ticks l.initial.set)
