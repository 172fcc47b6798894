-- Files that are made, one behind the other.
use Rattle.std.specs.Prelude.{◌≡◌, ◌≢◌, ◌⊎◌, ℕ, List, [], ◌∷◌, ◌++◌, take, codes, Option, Some, IfSome, false, Result, Ok, Err}
use Rattle.store_io.specs.Causes.{Call, Rose}
use Rattle.store_io.specs.Files.{Files, ChangesOnly}
use Rattle.store_io.specs.Told.{Tells}
use Rattle.store_io.specs.declared.store.Store as store
use Rattle.nbody_model.specs.Bodies.{BodyData}
use Rattle.nbody_model.specs.SnapshotText.{snapshot_text}
use Rattle.made_bodies.specs.declared.files.MakeErr.{MakeErr}
use Rattle.made_bodies.specs.declared.files.MakeErr.TheVariants.{WriteFault, Memory}
use Rattle.made_bodies.specs.Settings.{settings_text}

-- ---- which files

-- a file, by its name and its bytes
pub record FileData : Type 0 where
  pub name : List ℕ
  pub text : List ℕ

-- the snapshot of these bodies at tick 0, and the parameter file that names it
abbrev pub snapshot_file : List ℕ → List BodyData → FileData
snapshot_file name B = record { name = name ++ codes ".ics"; text = snapshot_text B 0 0 }

abbrev pub settings_file : List ℕ → FileData
settings_file name = record { name = name ++ codes ".param"; text = settings_text name }

-- ---- what becomes of them

-- a file is as it was, or holds a first part of a text
abbrev pub IsPartly : Option (List ℕ) → Option (List ℕ) → List ℕ → Type 0
IsPartly old new text = (new ≡ old) ⊎ ((k : ℕ) × (new ≡ Some (take k text)))

-- a file of this name is as it was, or holds a first part of the text; all others are as they were
abbrev pub WritesPart : Files → Files → List ℕ → List ℕ → Type 0
WritesPart old new name text = (new ≡ old) ⊎ ((k : ℕ) × ChangesOnly old new name (Some (take k text)))

-- both files have their texts, in their order they are finished, and all others are as they were
pub record AreMade (first second : FileData) (old new : Files) (closed closed_new : List (List ℕ)) : Type 0 where
  pub first_text : new first.name ≡ Some first.text
  pub second_text : new second.name ≡ Some second.text
  pub others : (q : List ℕ) → q ≢ first.name → q ≢ second.name → new q ≡ old q
  pub finished : closed_new ≡ closed ++ first.name ∷ second.name ∷ []

-- either file is as it was or holds a first part of its text, the second one is begun only where the first one is whole and
-- finished, and all others are as they were
pub record AreBegun (first second : FileData) (old new : Files) (closed closed_new : List (List ℕ)) : Type 0 where
  pub first_part : IsPartly (old first.name) (new first.name) first.text
  pub second_part : IsPartly (old second.name) (new second.name) second.text
  pub others : (q : List ℕ) → q ≢ first.name → q ≢ second.name → new q ≡ old q
  pub in_turn : ((new second.name ≡ old second.name) × (closed_new ≡ closed))
      ⊎ ((new first.name ≡ Some first.text) × (closed_new ≡ closed ++ first.name ∷ []))

-- by what a store tells
abbrev pub Makes : {X : Type 0} → store.Ghosts X → X → X → FileData → FileData → Type 0
Makes S old new first second = Tells S old → AreMade first second (S.file old) (S.file new) (S.closed old) (S.closed new)

abbrev pub Begins : {X : Type 0} → store.Ghosts X → X → X → FileData → FileData → Type 0
Begins S old new first second = Tells S old → AreBegun first second (S.file old) (S.file new) (S.closed old) (S.closed new)

-- ---- why not

-- a file couldn't be written only where the count of faults rose, and the call that failed last is then one that writes this
-- file; in all other cases no call failed
abbrev pub MakeCause : Result Unit MakeErr → ℕ → ℕ → Option Call → Option Call → Type 0
MakeCause (Ok x) before now last last_now = (now ≡ before) × (last_now ≡ last)
MakeCause (Err (WriteFault name)) before now last last_now = Rose before now × IfSome last_now (λ c. c ≡ (name, false))
MakeCause (Err Memory) before now last last_now = (now ≡ before) × (last_now ≡ last)

abbrev pub HasCause : {X : Type 0} → store.Ghosts X → X → X → Result Unit MakeErr → Type 0
HasCause S old new result = MakeCause result (S.faults old) (S.faults new) (S.last old) (S.last new)

-- the file that couldn't be written is one of these two
abbrev pub Blames : List ℕ → List ℕ → MakeErr → Type 0
Blames first second (WriteFault name) = (name ≡ first) ⊎ (name ≡ second)
Blames first second Memory = Unit {0}
