use Rattle.std.proofs.Common.{◌≡◌, take}
use Rattle.kick_drift.specs.Parts.{ids_at}
use Rattle.step_engine.proofs.parts.gather_ids.Given as goal

abbrev pub invariant-loop-place : goal.invariant-loop-place
invariant-loop-place l = l.room.items ≡ ids_at l.set (take l.place-index l.part)
