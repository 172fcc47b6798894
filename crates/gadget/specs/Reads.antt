-- How a file is read, and why it wasn't.
use Rattle.std.specs.Prelude.{◌≡◌, ◌≤◌, ◌<◌, ℕ, Bool, true, IsTrue, IfSome, List, length, Option, Some, None}
use Rattle.store_io.specs.Causes.{Call, Rose}
use Rattle.store_io.specs.Files.{Files}
use Rattle.store_io.specs.declared.store.Store as store
use Rattle.store_io.specs.declared.errors.ReadErr.{ReadErr}
use Rattle.store_io.specs.declared.errors.ReadErr.TheVariants.{Absent as NoFile, Failed as NotReadable, TooLong as TooMany, Memory as NoMemory}
use Rattle.run_session.specs.Worlds.{World}
use Rattle.gadget.specs.declared.status.Status.{Status}
use Rattle.gadget.specs.declared.status.Status.TheVariants.{Memory, ReadFault, Absent, TooLong}

-- what is told of the files before a call that changes none, and of the faults before and after it
pub record Seen : Type 0 where
  pub tells : Bool
  pub files : Files
  pub faults : ℕ
  pub faults_new : ℕ
  pub last : Option Call

-- what a store tells of a call that changes no file
abbrev pub seen_by : {X : Type 0} → store.Ghosts X → X → X → Seen
seen_by S old new = record { tells = S.tells old; files = S.file old; faults = S.faults old; faults_new = S.faults new; last = S.last new }

-- the same, of what is told before and after
abbrev pub seen : Bool → World → World → Seen
seen told A Z = record { tells = told; files = A.files; faults = A.faults; faults_new = Z.faults; last = Z.last }

-- a file of this name stands, has these bytes, and isn't longer than the limit
pub record WasRead (files : Files) (name : List ℕ) (limit : ℕ) (bytes : List ℕ) : Type 0 where
  pub stands : files name ≡ Some bytes
  pub short : length bytes ≤ limit

-- the file of a name is read within a limit, and its bytes spell this value
pub record FileSpells {V : Type 0} (files : Files) (name : List ℕ) (limit : ℕ) (Spells : List ℕ → V → Type 0) (v : V) : Type 0 where
  pub bytes : List ℕ
  pub read : WasRead files name limit bytes
  pub spelled : Spells bytes v

-- the file of a name is read within a limit, and this is what is wrong with its bytes
pub record FileHasFault {E : Type 0} (files : Files) (name : List ℕ) (limit : ℕ) (IsFault : List ℕ → E → Type 0) (err : E) : Type 0 where
  pub bytes : List ℕ
  pub read : WasRead files name limit bytes
  pub fault : IsFault bytes err

-- of a file that may be named: it is named, and this holds of the name
abbrev pub IfNamed : Option (List ℕ) → (List ℕ → Type 0) → Type 0
IfNamed None P = ⊥
IfNamed (Some name) P = P name

-- a file of this name stands, and is longer than the limit
pub record IsLong (files : Files) (name : List ℕ) (limit len : ℕ) : Type 0 where
  pub bytes : List ℕ
  pub stands : files name ≡ Some bytes
  pub is : len ≡ length bytes

-- why a file of this name wasn't read
abbrev pub NotRead : Seen → List ℕ → ℕ → Status → Type 0
NotRead s name limit (Absent n) = (n ≡ name) × (IsTrue s.tells → s.files name ≡ None)
NotRead s name limit (TooLong n len) = (n ≡ name) × (limit < len) × (IsTrue s.tells → IsLong s.files name limit len)
NotRead s name limit (ReadFault n) = (n ≡ name) × Rose s.faults s.faults_new × IfSome s.last (λ c. c ≡ (name, true))
NotRead s name limit Memory = Unit {0}
NotRead s name limit status = ⊥

-- the answer for a file that wasn't read
abbrev pub status_of : ReadErr → List ℕ → Status
status_of NoFile name = Absent name
status_of NotReadable name = ReadFault name
status_of (TooMany len) name = TooLong name len
status_of NoMemory name = Memory
