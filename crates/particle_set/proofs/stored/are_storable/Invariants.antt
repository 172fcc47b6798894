use Rattle.std.proofs.Common.{All, take}
use Rattle.particle_set.specs.Stored.{IsStorable}
use Rattle.particle_set.proofs.stored.are_storable.Given as goal

abbrev pub invariant-loop-body : goal.invariant-loop-body
invariant-loop-body l = All IsStorable (take l.body-index l.bodies)
