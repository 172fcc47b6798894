use Rattle.std.proofs.Common.{◌≡◌, map}
use Rattle.std.specs.List.{range_with_len}
use Rattle.restart_files.specs.RestartFile.{depth_in}
use Rattle.restart_files.proofs.bodies.depths_of.Given as goal

abbrev pub invariant-loop-index : goal.invariant-loop-index
invariant-loop-index l = l.depths.items ≡ map (depth_in l.bytes) (range_with_len 0 l.index)
