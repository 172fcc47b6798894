use Rattle.std.proofs.Common.{take}
use Rattle.std.specs.List.{AllByRecursion}
use Rattle.nbody_model.specs.Bodies.{IsInRange}
use Rattle.rewind.proofs.kicks.keep_range.Given as goal

abbrev pub invariant-loop-body : goal.invariant-loop-body
invariant-loop-body l = AllByRecursion (λ b. IsInRange b.motion.mom) (take l.body-index l.bodies)
