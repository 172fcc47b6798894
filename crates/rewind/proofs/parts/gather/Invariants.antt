use Rattle.std.proofs.Common.{◌≡◌, map, take, get_or}
use Rattle.kick_drift.proofs.Chosen.{blank}
use Rattle.rewind.proofs.parts.gather.Given as goal

abbrev pub invariant-loop-place : goal.invariant-loop-place
invariant-loop-place l = l.room.items ≡ map (λ p. get_or l.set p blank) (take l.place-index l.part)
