use Rattle.std.proofs.Common.{◌≡◌, ◌++◌, take}
use Rattle.std.specs.List.{flat_map}
use Rattle.nbody_model.specs.RestartText.{body_bytes}
use Rattle.restart_files.proofs.write.push_bodies.Given as goal

abbrev pub invariant-loop-body : goal.invariant-loop-body
invariant-loop-body l = l.out.items ≡ l.fn.out.items ++ flat_map body_bytes (take l.body-index l.bodies)
