-- How many answers the bytes of a restart file have.
use Rattle.std.specs.Prelude.{◌≡◌, ℕ, List}
use Rattle.nbody_model.specs.Setups.{SetupData}
use Rattle.nbody_model.specs.States.{StateData}
use Rattle.particle_set.specs.Rows.{IsRefusalByMemory}
use Rattle.restart_files.specs.declared.errors.RestartErr.{RestartErr}
use Rattle.restart_files.specs.declared.errors.RestartErr.TheVariants.{Tag, Length, Version, Field, EndMark, Bodies as InBodies, Memory}
use Rattle.restart_files.specs.RestartFile.{Spell, IsFirstFault}

-- the error is want of memory
abbrev pub IsWantOfMemory : RestartErr → Type 0
IsWantOfMemory Tag = ⊥
IsWantOfMemory (Length want got) = ⊥
IsWantOfMemory (Version v) = ⊥
IsWantOfMemory (Field at) = ⊥
IsWantOfMemory EndMark = ⊥
IsWantOfMemory (InBodies e) = IsRefusalByMemory e
IsWantOfMemory Memory = Unit {0}

-- bytes spell at most one state with its settings, and what spells one has no fault
pub record ReadOneWay (bytes : List ℕ) : Type 0 where
  pub one_state : (σ τ : StateData) (s t : SetupData) → Spell bytes σ s → Spell bytes τ t → σ ≡ τ
  pub one_setup : (σ τ : StateData) (s t : SetupData) → Spell bytes σ s → Spell bytes τ t → s ≡ t
  pub apart : (σ : StateData) (s : SetupData) (e : RestartErr) → Spell bytes σ s → IsFirstFault bytes e → IsWantOfMemory e
