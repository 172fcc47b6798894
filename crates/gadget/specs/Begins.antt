-- What a run begins with: tick 0 by a snapshot, or the state of a restart file; and why it doesn't begin.
use Rattle.std.specs.Prelude.{◌≡◌, ◌⊎◌, ℕ, IsTrue, List, [], Some}
use Rattle.store_io.specs.Files.{Files}
use Rattle.nbody_model.specs.Bodies.{BodyData}
use Rattle.nbody_model.specs.Setups.{SetupData}
use Rattle.nbody_model.specs.States.{StateData}
use Rattle.nbody_model.specs.Session.{Plan}
use Rattle.param_file.specs.Settings.{setup_of}
use Rattle.restart_laws.specs.Kept.{GoesOnFromBytes}
use Rattle.run_session.specs.RunEnds.{plan_of}
use Rattle.gadget.specs.declared.status.Status.{Status}
use Rattle.gadget.specs.Reads.{Seen}
use Rattle.gadget.specs.Inputs.{InputsData, Accepts, FirstRefusal}
use Rattle.gadget.specs.Snapshots.{NamesBodies, SnapshotRefusal}
use Rattle.gadget.specs.Restarts.{NamesState, RestartRefusal, DiffersIn}

-- ---- a run from tick 0

-- these bodies, and nothing was done yet
abbrev pub first_state : List BodyData → StateData
first_state B = record { bodies = B; depths = []; steps = 0; tick = 0; next_snapshot = 0; next_restart = 0; kicks = 0; interactions = 0 }

-- the parameter file of this name, and the list, the tables and the snapshot that it names are these
pub record BeginsWith (files : Files) (name : List ℕ) (i : InputsData) (B : List BodyData) : Type 0 where
  pub accepted : Accepts files name i
  pub bodies : NamesBodies files i.params.init_cond_file B

-- the snapshot isn't accepted, but the parameter file, the list and the tables are
pub record RefusesBodies (s : Seen) (name : List ℕ) (status : Status) : Type 0 where
  pub inputs : InputsData
  pub accepted : IsTrue s.tells → Accepts s.files name inputs
  pub refused : SnapshotRefusal s inputs.params.init_cond_file status

-- the first refusal of a run: the snapshot comes last
abbrev pub RunRefusal : Seen → List ℕ → Status → Type 0
RunRefusal s name status = FirstRefusal s name status ⊎ RefusesBodies s name status

-- ---- a run that is resumed

-- what a run by these inputs goes by
abbrev pub plan_by : InputsData → Plan
plan_by i = plan_of (record { setup = setup_of i.params; table = i.table }) i.factors i.params i.times

-- whatever run from tick 0 by this plan has a state whose restart file is the file of this name: a session that is resumed
-- from ρ goes on as that run does where it isn't stopped
abbrev pub GoesOnAsKept : Files → List ℕ → Plan → StateData → Type 0
GoesOnAsKept files restart plan ρ = (bytes : List ℕ) → files restart ≡ Some bytes → GoesOnFromBytes plan bytes ρ

-- the parameter file of this name, and the list and the tables that it names are these, and the restart file of the other
-- name keeps this state, by the same settings
pub record GoesOnFrom (files : Files) (name restart : List ℕ) (i : InputsData) (σ : StateData) : Type 0 where
  pub accepted : Accepts files name i
  pub state : NamesState files restart σ (setup_of i.params)

-- the restart file isn't accepted, but the parameter file, the list and the tables are
pub record RefusesState (s : Seen) (name restart : List ℕ) (status : Status) : Type 0 where
  pub inputs : InputsData
  pub accepted : IsTrue s.tells → Accepts s.files name inputs
  pub refused : RestartRefusal s restart status

-- all files are accepted, but the restart file was kept by other settings
pub record RefusesSettings (s : Seen) (name restart : List ℕ) (status : Status) : Type 0 where
  pub inputs : InputsData
  pub accepted : IsTrue s.tells → Accepts s.files name inputs
  pub state : StateData
  pub setup : SetupData
  pub kept : IsTrue s.tells → NamesState s.files restart state setup
  pub refused : DiffersIn setup (setup_of inputs.params) status

-- the first refusal of a run that is resumed: the restart file comes last, and then its settings
abbrev pub ResumeRefusal : Seen → List ℕ → List ℕ → Status → Type 0
ResumeRefusal s name restart status = FirstRefusal s name status ⊎ (RefusesState s name restart status ⊎ RefusesSettings s name restart status)
