use Rattle.restart_files.specs.RestartFile.{NoFaultBelow}
use Rattle.restart_files.proofs.bodies.check_bodies.Given as goal

abbrev pub invariant-loop-index : goal.invariant-loop-index
invariant-loop-index l = NoFaultBelow l.bytes l.index
