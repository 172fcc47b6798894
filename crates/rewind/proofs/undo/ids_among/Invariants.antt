use Rattle.std.proofs.Common.{◌≡◌, take}
use Rattle.kick_drift.specs.Parts.{ids_at}
use Rattle.rewind.proofs.undo.ids_among.Given as goal

abbrev pub invariant-loop-place : goal.invariant-loop-place
invariant-loop-place l = l.ids.items ≡ ids_at l.bodies (take l.place-index l.chosen)
