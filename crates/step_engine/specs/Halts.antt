-- Why a step halts.
use Rattle.std.specs.Prelude.{ℕ, List}
use Rattle.store_io.specs.declared.errors.IoErr.{IoErr}
use Rattle.store_io.specs.declared.errors.IoErr.TheVariants.{Failed, Memory}
use Rattle.kick_drift.specs.declared.kicks.KickErr.{KickErr}
use Rattle.kick_drift.specs.declared.kicks.KickErr.TheVariants.{MomRange}
use Rattle.step_engine.specs.declared.halt.Halt.{Halt}
use Rattle.step_engine.specs.declared.halt.Halt.TheVariants as halts
use Rattle.step_engine.specs.declared.step_end.StepCount.{StepCount}
use Rattle.step_engine.specs.declared.step_end.StepEnd.{StepEnd}
use Rattle.step_engine.specs.declared.step_end.StepEnd.TheVariants as ends

-- what happened couldn't be handed out
abbrev pub halt_for : IoErr → Halt
halt_for Failed = halts.OutFault
halt_for Memory = halts.Memory

-- a kick of a tick and a bin is refused
abbrev pub refusal_of : ℕ → ℕ → KickErr → Halt
refusal_of tick bin (MomRange id axis) = halts.MomRange tick bin id axis

-- how a base step ends that halts: where it rests, with these depths and this count
abbrev pub end_of : Halt → List ℕ → StepCount → StepEnd
end_of (halts.MomRange tick bin id axis) depth count = ends.MomRange tick bin id axis
end_of (halts.StepRange tick id) depth count = ends.StepRange tick id
end_of halts.OutFault depth count = ends.OutFault
end_of (halts.Rest tick) depth count = ends.Rest tick depth count
end_of halts.Memory depth count = ends.Memory
