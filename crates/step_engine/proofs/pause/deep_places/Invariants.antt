use Rattle.std.proofs.Common.{◌≡◌, ◌++◌, drop}
use Rattle.step_engine.specs.Resumed.{deep_from}
use Rattle.step_engine.proofs.pause.deep_places.Given as goal

abbrev pub invariant-loop-place : goal.invariant-loop-place
invariant-loop-place l = l.places.items ++ deep_from l.least l.place (drop l.place l.depth) ≡ deep_from l.least 0 l.depth
