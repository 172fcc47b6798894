use Rattle.std.proofs.Common.{◌≡◌, take, filter}
use Rattle.nbody_model.specs.Bodies.{has}
use Rattle.kick_drift.proofs.Chosen.{id_at}
use Rattle.rewind.proofs.parts.places_with.Given as goal

abbrev pub invariant-loop-place : goal.invariant-loop-place
invariant-loop-place l = l.places.items ≡ filter (λ p. has l.ids (id_at l.set p)) (take l.place-index l.part)
