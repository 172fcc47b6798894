-- What becomes of the one file that a command writes.
use Rattle.std.specs.Prelude.{◌≡◌, ℕ, Bool, false, IsTrue, IfSome, List, [], ◌∷◌, ◌++◌, Some, None}
use Rattle.store_io.specs.Causes.{Rose}
use Rattle.store_io.specs.Files.{ChangesOnly}
use Rattle.store_io.specs.declared.store.Store as store
use Rattle.run_session.specs.Worlds.{World, store_world}
use Rattle.made_bodies.specs.Made.{WritesPart}
use Rattle.gadget.specs.declared.status.Status.{Status}
use Rattle.gadget.specs.declared.status.Status.TheVariants.{Memory, WriteFault}

-- no file changed, and none was finished
pub record SameFiles (A Z : World) : Type 0 where
  pub files : Z.files ≡ A.files
  pub closed : Z.closed ≡ A.closed

-- the file of a name has this text and is finished, all others are as they were, and no call failed
pub record IsPut (told : Bool) (A Z : World) (name text : List ℕ) : Type 0 where
  pub quiet : Z.faults ≡ A.faults
  pub changed : IsTrue told → ChangesOnly A.files Z.files name (Some text)
  pub finished : IsTrue told → Z.closed ≡ A.closed ++ name ∷ []

-- why it isn't finished, by the count of faults before: it couldn't be written, or memory was wanting, and then no call failed
abbrev pub PutRefusal : ℕ → World → List ℕ → Status → Type 0
PutRefusal before Z name (WriteFault n) = (n ≡ name) × Rose before Z.faults × IfSome Z.last (λ c. c ≡ (name, false))
PutRefusal before Z name Memory = Z.faults ≡ before
PutRefusal before Z name status = ⊥

-- it isn't finished: it is as it was or holds a first part of the text, and all others are as they were
pub record IsCutShort (told : Bool) (A Z : World) (name text : List ℕ) (status : Status) : Type 0 where
  pub cause : PutRefusal A.faults Z name status
  pub part : IsTrue told → WritesPart A.files Z.files name text
  pub closed : Z.closed ≡ A.closed

-- by what a store tells alone
abbrev pub told_by : {X : Type 0} → store.Ghosts X → X → World
told_by S x = store_world S x [] 0 None

abbrev pub IsPutBy : {X : Type 0} → store.Ghosts X → X → X → List ℕ → List ℕ → Type 0
IsPutBy S old new name text = IsPut (S.tells old) (told_by S old) (told_by S new) name text

abbrev pub IsCutShortBy : {X : Type 0} → store.Ghosts X → X → X → List ℕ → List ℕ → Status → Type 0
IsCutShortBy S old new name text status = IsCutShort (S.tells old) (told_by S old) (told_by S new) name text status
