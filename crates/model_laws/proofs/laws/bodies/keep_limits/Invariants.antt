use Rattle.std.proofs.Common.{take}
use Rattle.std.specs.List.{AllByRecursion}
use Rattle.model_laws.specs.Laws.{KeepsLimits}
use Rattle.model_laws.proofs.laws.bodies.keep_limits.Given as goal

abbrev pub invariant-loop-body : goal.invariant-loop-body
invariant-loop-body l = AllByRecursion KeepsLimits (take l.body-index l.bodies)
