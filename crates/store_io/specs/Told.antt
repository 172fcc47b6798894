-- What a store tells before and after a call. A clause hands in the members of its bound, `S.Store`.
use Rattle.std.specs.Prelude.{◌≡◌, Bool, IsTrue, List, [], ℕ, Some}
use Rattle.store_io.specs.Causes.{Call, HasCauseBy}
use Rattle.store_io.specs.Files.{KeepsBy, ChangesOnly, AppendsPart}
use Rattle.store_io.specs.declared.store.Store as store

-- its files are told
abbrev pub Tells : {X : Type 0} → store.Ghosts X → X → Type 0
Tells S x = IsTrue (S.tells x)

-- no file changed, and none was closed
abbrev pub KeepsFiles : {X : Type 0} → store.Ghosts X → X → X → Type 0
KeepsFiles S old new = KeepsBy S.tells S.file S.closed old new

-- a failure is told only where the count rose, and the call that failed last is then this one; every other answer leaves
-- both as they were
abbrev pub Causes : {X : Type 0} → store.Ghosts X → X → X → Bool → Call → Type 0
Causes S old new failed call = HasCauseBy S.faults S.last old new failed call

-- no call failed
abbrev pub IsQuiet : {X : Type 0} → store.Ghosts X → X → X → Type 0
IsQuiet S old new = (S.faults new ≡ S.faults old) × (S.last new ≡ S.last old)

-- the file of this name is empty, where it is told
abbrev pub IsEmpty : {X : Type 0} → store.Ghosts X → X → List ℕ → Type 0
IsEmpty S x name = Tells S x → S.file x name ≡ Some []

-- what `put` promises of a file that was empty: it now has these bytes, and all others are as they were
abbrev pub Puts : {X : Type 0} → store.Ghosts X → X → X → List ℕ → List ℕ → Type 0
Puts S old new name bytes = Tells S old → ChangesOnly (S.file old) (S.file new) name (Some bytes)

-- a first part of these bytes follows those of the file
abbrev pub PutsPart : {X : Type 0} → store.Ghosts X → X → X → List ℕ → List ℕ → Type 0
PutsPart S old new name bytes = Tells S old → AppendsPart (S.file old) (S.file new) name bytes
