use Rattle.std.proofs.Common.{◌≡◌, ◌++◌, take}
use Rattle.std.specs.List.{flat_map, zip}
use Rattle.restart_files.specs.Texts.{deep_body_bytes}
use Rattle.restart_files.proofs.write.push_deep_bodies.Given as goal

abbrev pub invariant-loop-index : goal.invariant-loop-index
invariant-loop-index l = l.out.items ≡ l.fn.out.items ++ flat_map deep_body_bytes (take l.index (zip l.state.bodies l.state.depths))
