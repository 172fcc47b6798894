use Rattle.std.proofs.Common.{◌≡◌, ◌*◌, ◌^◌, take}
use Rattle.fixed_point.specs.Vectors.{IsAtMost}
use Rattle.nbody_model.specs.Bodies.{total}
use Rattle.particle_set.proofs.body_set.BodySet.total_momentum.Given as goal

abbrev pub invariant-loop-body : goal.invariant-loop-body
invariant-loop-body l = (l.sum ≡ total (take l.body-index l.body-items)) × IsAtMost (l.body-index * 2 ^ 62) l.sum
