-- What making bodies may come to, and what it leaves.
use Rattle.std.specs.Prelude.{◌≡◌, ◌⊎◌, ℕ, Bool, false, IsTrue, IfSome, List, [], ◌++◌, codes, None}
use Rattle.store_io.specs.Causes.{Rose}
use Rattle.store_io.specs.declared.store.Store as store
use Rattle.run_session.specs.Worlds.{World, store_world}
use Rattle.made_bodies.specs.Drawn.{drawn_bodies}
use Rattle.made_bodies.specs.Made.{AreBegun, AreMade, settings_file, snapshot_file}
use Rattle.made_bodies.specs.declared.files.MakeErr.{MakeErr}
use Rattle.made_bodies.specs.declared.files.MakeErr.TheVariants as made
use Rattle.gadget.specs.declared.status.Status.{Status}
use Rattle.gadget.specs.declared.status.Status.TheVariants.{Memory, WriteFault}
use Rattle.gadget.specs.declared.outcome.Outcome.{Outcome}
use Rattle.gadget.specs.declared.outcome.Outcome.TheVariants.{Ran, Checked, Shown, Made, Grouped, Linked, Refused}

-- the answer for files that weren't made
abbrev pub status_by : MakeErr → Status
status_by (made.WriteFault name) = WriteFault name
status_by made.Memory = Memory

-- why they weren't: one of the two couldn't be written, or memory was wanting, and then no call failed
abbrev pub MakeRefusal : World → World → List ℕ → Status → Type 0
MakeRefusal A Z name (WriteFault n) =
    ((n ≡ name ++ codes ".ics") ⊎ (n ≡ name ++ codes ".param")) × Rose A.faults Z.faults × IfSome Z.last (λ c. c ≡ (n, false))
MakeRefusal A Z name Memory = Z.faults ≡ A.faults
MakeRefusal A Z name status = ⊥

-- the snapshot and the parameter file are made, or begun
abbrev pub MadeFiles : World → World → ℕ → ℕ → List ℕ → Type 0
MadeFiles A Z count seed name = AreMade (snapshot_file name (drawn_bodies seed count)) (settings_file name) A.files Z.files A.closed Z.closed

abbrev pub BegunFiles : World → World → ℕ → ℕ → List ℕ → Type 0
BegunFiles A Z count seed name = AreBegun (snapshot_file name (drawn_bodies seed count)) (settings_file name) A.files Z.files A.closed Z.closed

-- both files are made, and no call failed; or it is refused, with files that are begun at most
abbrev pub MakeDoes : Bool → World → World → ℕ → ℕ → List ℕ → Outcome → Type 0
MakeDoes told A Z count seed name (Made n base) =
    (n ≡ count) × (base ≡ name) × (Z.faults ≡ A.faults) × (IsTrue told → MadeFiles A Z count seed name)
MakeDoes told A Z count seed name (Refused status) = MakeRefusal A Z name status × (IsTrue told → BegunFiles A Z count seed name)
MakeDoes told A Z count seed name (Ran ended setup) = ⊥
MakeDoes told A Z count seed name (Checked B) = ⊥
MakeDoes told A Z count seed name (Shown head B) = ⊥
MakeDoes told A Z count seed name (Grouped groups members) = ⊥
MakeDoes told A Z count seed name (Linked n) = ⊥

-- by what a store tells alone, whoever may stop a run
abbrev pub MakesBy : {X : Type 0} → store.Ghosts X → X → X → ℕ → ℕ → List ℕ → Outcome → Type 0
MakesBy S old new count seed name outcome =
    MakeDoes (S.tells old) (store_world S old [] 0 None) (store_world S new [] 0 None) count seed name outcome
