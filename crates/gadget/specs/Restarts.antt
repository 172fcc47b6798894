-- A restart file that is read, and why it isn't accepted.
use Rattle.std.specs.Prelude.{◌≡◌, ℕ, IsTrue, List, Some}
use Rattle.store_io.specs.Files.{Files}
use Rattle.nbody_model.specs.Setups.{SetupData}
use Rattle.nbody_model.specs.States.{StateData}
use Rattle.param_file.specs.declared.names.ParamName.{ParamName}
use Rattle.restart_files.specs.RestartFile.{Spell, IsFirstFault}
use Rattle.restart_files.specs.Exact.{IsWantOfMemory}
use Rattle.restart_files.specs.Differences.{first_difference}
use Rattle.restart_files.specs.declared.errors.RestartErr.{RestartErr}
use Rattle.gadget.specs.declared.status.Status.{Status}
use Rattle.gadget.specs.declared.status.Status.TheVariants.{Memory, Restart, Differs}
use Rattle.gadget.specs.Reads.{Seen, NotRead, FileSpells, FileHasFault}

-- the longest restart file, in bytes
abbrev pub longest_restart : ℕ
longest_restart = 268435456

-- bytes spell a state and the settings by which it was kept
abbrev pub SpellsState : List ℕ → StateData × SetupData → Type 0
SpellsState bytes kept = Spell bytes kept.0 kept.1

-- the file of this name keeps this state, by these settings
abbrev pub NamesState : Files → List ℕ → StateData → SetupData → Type 0
NamesState files name σ s = FileSpells files name longest_restart SpellsState (σ, s)

-- the file of this name keeps no state, and this is its first fault
abbrev pub HasRestartFault : Files → List ℕ → RestartErr → Type 0
HasRestartFault files name err = FileHasFault files name longest_restart IsFirstFault err

-- why a restart file isn't accepted; want of memory is no error of the file
abbrev pub RestartRefusal : Seen → List ℕ → Status → Type 0
RestartRefusal s name (Restart err) = ¬ IsWantOfMemory err × (IsTrue s.tells → HasRestartFault s.files name err)
RestartRefusal s name status = NotRead s name longest_restart status

-- the first setting in which a kept run differs from this one
abbrev pub DiffersIn : SetupData → SetupData → Status → Type 0
DiffersIn kept now status = (row : ParamName) × (first_difference kept now ≡ Some row) × (status ≡ Differs row)

-- the answers of the reader alone
abbrev pub RestartAnswer : List ℕ → Status → Type 0
RestartAnswer bytes (Restart err) = ¬ IsWantOfMemory err × IsFirstFault bytes err
RestartAnswer bytes Memory = Unit {0}
RestartAnswer bytes status = ⊥
