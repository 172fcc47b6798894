-- A refusal of what a run begins with is one of the whole reading.
use Rattle.std.proofs.Common.{◌≡◌, ℕ, Bool, IsTrue, List, Option, subst, inl, inr}
use Rattle.store_io.specs.Causes.{Call}
use Rattle.store_io.specs.Files.{Files}
use Rattle.nbody_model.specs.Setups.{SetupData}
use Rattle.nbody_model.specs.States.{StateData}
use Rattle.param_file.specs.Settings.{setup_of}
use Rattle.gadget.specs.declared.status.Status.{Status}
use Rattle.gadget.specs.Reads.{Seen}
use Rattle.gadget.specs.Inputs.{InputsData, Accepts}
use Rattle.gadget.specs.Snapshots.{SnapshotRefusal}
use Rattle.gadget.specs.Restarts.{NamesState, DiffersIn, RestartRefusal}
use Rattle.gadget.specs.Begins.{RunRefusal, ResumeRefusal}
use Rattle.gadget.proofs.Stages.{seen, seen_is, held}

pub bodies_refused : (t t1 : Bool) (d d1 : Files) (n n1 now : ℕ) (last : Option Call) (name read : List ℕ) (i : InputsData) (status : Status)
    → t1 ≡ t → d1 ≡ d → n1 ≡ n → read ≡ i.params.init_cond_file
    → (IsTrue t → Accepts d name i)
    → SnapshotRefusal (seen t1 d1 n1 now last) read status
    → RunRefusal (seen t d n now last) name status
bodies_refused t t1 d d1 n n1 now last name read i status a b c e accepted refused =
    inr (record {
      inputs = i;
      accepted = accepted;
      refused = subst (λ (s : Seen). SnapshotRefusal s i.params.init_cond_file status) (seen_is t1 t d1 d n1 n now last a b c)
          (subst (λ (r : List ℕ). SnapshotRefusal (seen t1 d1 n1 now last) r status) e refused);
    })

pub state_refused : (t t1 : Bool) (d d1 : Files) (n n1 now : ℕ) (last : Option Call) (name restart : List ℕ) (i : InputsData) (status : Status)
    → t1 ≡ t → d1 ≡ d → n1 ≡ n
    → (IsTrue t → Accepts d name i)
    → RestartRefusal (seen t1 d1 n1 now last) restart status
    → ResumeRefusal (seen t d n now last) name restart status
state_refused t t1 d d1 n n1 now last name restart i status a b c accepted refused =
    inr (inl (record {
      inputs = i;
      accepted = accepted;
      refused = subst (λ (s : Seen). RestartRefusal s restart status) (seen_is t1 t d1 d n1 n now last a b c) refused;
    }))

pub settings_refused : (t t1 : Bool) (d d1 : Files) (n now : ℕ) (last : Option Call) (name restart : List ℕ) (i : InputsData) (σ : StateData) (s : SetupData) (status : Status)
    → t1 ≡ t → d1 ≡ d
    → (IsTrue t → Accepts d name i)
    → (IsTrue t1 → NamesState d1 restart σ s)
    → DiffersIn s (setup_of i.params) status
    → ResumeRefusal (seen t d n now last) name restart status
settings_refused t t1 d d1 n now last name restart i σ s status a b accepted kept refused =
    inr (inr (record {
      inputs = i;
      accepted = accepted;
      state = σ;
      setup = s;
      kept = held (λ F. NamesState F restart σ s) t1 t d1 d a b kept;
      refused = refused;
    }))
