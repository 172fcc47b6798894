use Rattle.std.proofs.Common.{take}
use Rattle.step_engine.specs.Deeper.{IsDeeper}
use Rattle.step_engine.proofs.depth.add_part.Given as goal

abbrev pub invariant-loop-place : goal.invariant-loop-place
invariant-loop-place l = IsDeeper (take l.place-index l.fast) l.fn.depth.items l.depth.items
