use Rattle.std.proofs.Common.{◌≡◌, take}
use Rattle.kick_drift.specs.Parts.{ids_at}
use Rattle.rewind.proofs.parts.ids_of.Given as goal

abbrev pub invariant-loop-place : goal.invariant-loop-place
invariant-loop-place l = l.ids.items ≡ ids_at l.set (take l.place-index l.part)
