-- A session from the state of a restart file goes on as each run that kept it.
use Rattle.std.proofs.Common.{◌≡◌, ℕ, List, Some, sym, ◌∙◌, subst}
use Rattle.store_io.specs.Files.{Files}
use Rattle.nbody_model.specs.Setups.{IsSetup}
use Rattle.nbody_model.specs.States.{StateData}
use Rattle.param_file.specs.Settings.{setup_of}
use Rattle.restart_files.specs.RestartFile.{Spell}
use Rattle.restart_laws.proofs.Laws.{go_on}
use Rattle.gadget.specs.Inputs.{InputsData}
use Rattle.gadget.specs.Begins.{GoesOnAsKept, GoesOnFrom, plan_by}

same_bytes : (a b : List ℕ) → Some a ≡ Some b → a ≡ b
same_bytes a b e = cc

pub goes_on : (files : Files) (name restart : List ℕ) (i : InputsData) (σ : StateData) → IsSetup (setup_of i.params)
    → GoesOnFrom files name restart i σ → GoesOnAsKept files restart (plan_by i) σ
goes_on files name restart i σ h a bytes e =
    let same : a.state.bytes ≡ bytes = same_bytes a.state.bytes bytes (sym a.state.read.stands ∙ e) in
    go_on (plan_by i) bytes σ (setup_of i.params) h (subst (λ b. Spell b σ (setup_of i.params)) same a.state.spelled)
