-- Words of the calls that take steps back, over what they are given.
use Rattle.std.specs.Prelude.{ℕ, List}
use Rattle.std.specs.Option.{option_copied}
use Rattle.nbody_model.specs.Bodies.{BodyData}
use Rattle.nbody_model.specs.Tables.{Gravity, Rules}
use Rattle.kick_drift.specs.Parts.{ids_at}
use Rattle.step_engine.specs.Stages.{rules}
use Rattle.rewind_laws.specs.Back.{Back, as_told, back_kick, back_close}
use Rattle.rewind.specs.declared.course.Course.{Course}
use Rattle.rewind.specs.declared.course.Split.{Split}
use Rattle.rewind.specs.declared.course.Step.{Step}
use Rattle.rewind.specs.declared.errors.RewindErr.{RewindErr}
use Rattle.rewind.specs.Rewinding.{IsLeft, IsInside, IsUndone, IsNotUndone, AreUndone, AreNotUndone, IsRewound, IsRefusedRun, back_open}

-- what steps go by
abbrev pub rules_of : Gravity → Course → Rules
rules_of g c = rules g (option_copied c.expansion)

-- ---- the stages of a step whose fast bodies are told, taken back from bodies

-- a kick of it by h
abbrev pub unkicked : Gravity → Split → ℕ → List BodyData → Back
unkicked g s h B = back_kick g (ids_at B s.part.now) (ids_at B s.fast.now) h B

-- a look at its fast bodies
abbrev pub looked_at : Gravity → Split → List BodyData → Back
looked_at g s B = as_told g s.bin (ids_at B s.part.now) (ids_at B s.fast.now) s.tick B

-- its second half and its first one, but for its finer steps
abbrev pub closed : Gravity → Course → Split → List BodyData → Back
closed g c s B = back_close (rules_of g c) s.bin (ids_at B s.part.now) (ids_at B s.fast.now) s.tick B

abbrev pub opened : Gravity → Course → Split → List BodyData → Back
opened g c s B = back_open (rules_of g c) s.bin (ids_at B s.part.now) (ids_at B s.fast.now) s.tick B

-- ---- a step, by what is left

abbrev pub StepIsLeft : Gravity → Course → Step → List BodyData → ℕ → Type 0
StepIsLeft g c s B left = IsLeft g.setup.low_bin s.bin (ids_at B s.part.now) c.bins.now left

abbrev pub UndoesStep : Gravity → Course → Step → List BodyData → ℕ → List BodyData → ℕ → Type 0
UndoesStep g c s B left C rest = IsUndone (rules_of g c) s.bin (ids_at B s.part.now) s.tick c.bins.now B left C rest

abbrev pub StepFails : Gravity → Course → Step → List BodyData → ℕ → RewindErr → Type 0
StepFails g c s B left e = IsNotUndone (rules_of g c) s.bin (ids_at B s.part.now) s.tick c.bins.now B left e

-- ---- its finer steps

abbrev pub InnerIsLeft : Gravity → Course → Split → List BodyData → ℕ → Type 0
InnerIsLeft g c s B left = IsInside g.setup.low_bin s.bin (ids_at B s.part.now) (ids_at B s.fast.now) c.bins.now left

abbrev pub UndoesInner : Gravity → Course → Split → List BodyData → ℕ → List BodyData → ℕ → Type 0
UndoesInner g c s B left C rest = AreUndone (rules_of g c) s.bin (ids_at B s.part.now) (ids_at B s.fast.now) s.tick c.bins.now B left C rest

abbrev pub InnerFails : Gravity → Course → Split → List BodyData → ℕ → RewindErr → Type 0
InnerFails g c s B left e = AreNotUndone (rules_of g c) s.bin (ids_at B s.part.now) (ids_at B s.fast.now) s.tick c.bins.now B left e

-- ---- a run

abbrev pub UndoesRun : Gravity → Course → List BodyData → List BodyData → Type 0
UndoesRun g c B A = IsRewound (rules_of g c) c.bins.now B A

abbrev pub RunFails : Gravity → Course → List BodyData → RewindErr → Type 0
RunFails g c B e = IsRefusedRun (rules_of g c) c.bins.now B e
