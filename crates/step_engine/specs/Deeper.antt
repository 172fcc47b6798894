-- Depths that grow where a step rests.
use Rattle.std.specs.Prelude.{◌≡◌, ◌<◌, ◌≤◌, ⊤, ℕ, ◌+◌, List, length, slice_index, if◌then◌else◌}
use Rattle.std.specs.List.{AllByRecursion}
use Rattle.nbody_model.specs.Bodies.{has}
use Rattle.step_engine.specs.declared.halt.Halt.{Halt}
use Rattle.step_engine.specs.declared.halt.Halt.TheVariants as halts

-- one more at each of these places
pub record IsDeeper (fast old new : List ℕ) : Type 0 where
  pub long : length new ≡ length old
  pub each : (i : ℕ) → i < length old → slice_index new i ≡ slice_index old i + (if has fast i then 1 else 0)

-- a rest has a depth for each of these places, and none is too large to grow
pub record IsRoomy (fast depth : List ℕ) : Type 0 where
  pub within : (k : ℕ) → k < length fast → slice_index fast k < length depth
  pub shallow : AllByRecursion (λ d. d ≤ 20) depth

abbrev pub HasRoom : Halt → List ℕ → List ℕ → Type 0
HasRoom (halts.Rest tick) fast depth = IsRoomy fast depth
HasRoom (halts.MomRange tick bin id axis) fast depth = ⊤
HasRoom (halts.StepRange tick id) fast depth = ⊤
HasRoom halts.OutFault fast depth = ⊤
HasRoom halts.Memory fast depth = ⊤

-- depths grow by a rest alone
abbrev pub DeepensBy : Halt → List ℕ → List ℕ → List ℕ → Type 0
DeepensBy (halts.Rest tick) fast old new = IsDeeper fast old new
DeepensBy (halts.MomRange tick bin id axis) fast old new = new ≡ old
DeepensBy (halts.StepRange tick id) fast old new = new ≡ old
DeepensBy halts.OutFault fast old new = new ≡ old
DeepensBy halts.Memory fast old new = new ≡ old
