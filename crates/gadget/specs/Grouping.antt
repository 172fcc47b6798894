-- What the groups of a snapshot may come to, and what they leave.
use Rattle.std.specs.Prelude.{◌≡◌, ◌⊎◌, ℕ, Bool, IsTrue, List, length, sum_by}
use Rattle.store_io.specs.Files.{Files}
use Rattle.store_io.specs.declared.store.Store as store
use Rattle.nbody_model.specs.Bodies.{BodyData}
use Rattle.group_file.specs.Catalogues.{GroupData}
use Rattle.group_file.specs.GroupFile.{catalogue_text}
use Rattle.groups.specs.Groups.{IsCatalogue}
use Rattle.run_session.specs.Worlds.{World}
use Rattle.gadget.specs.declared.status.Status.{Status}
use Rattle.gadget.specs.declared.outcome.Outcome.{Outcome}
use Rattle.gadget.specs.declared.outcome.Outcome.TheVariants.{Ran, Checked, Shown, Made, Grouped, Linked, Refused}
use Rattle.gadget.specs.Reads.{seen}
use Rattle.gadget.specs.Snapshots.{NamesBodies, SnapshotRefusal}
use Rattle.gadget.specs.NamedFile.{SameFiles, IsPut, IsCutShort, told_by}

-- the catalogue of the bodies of a snapshot, of groups of at least so many members, which links of this length join
pub record GroupsOf (files : Files) (snapshot : List ℕ) (reach least : ℕ) (C : List GroupData) : Type 0 where
  pub bodies : List BodyData
  pub named : NamesBodies files snapshot bodies
  pub is : IsCatalogue reach least bodies C

-- how many members the groups of a catalogue have
abbrev pub members_of : List GroupData → ℕ
members_of C = sum_by (λ g. length g.ids) C

-- the catalogue is in a file, and these are its numbers
pub record AreGrouped (told : Bool) (A Z : World) (snapshot : List ℕ) (reach least : ℕ) (name : List ℕ) (groups members : ℕ) : Type 0 where
  pub catalogue : List GroupData
  pub found : IsTrue told → GroupsOf A.files snapshot reach least catalogue
  pub groups_are : groups ≡ length catalogue
  pub members_are : members ≡ members_of catalogue
  pub written : IsPut told A Z name (catalogue_text catalogue)

-- the catalogue is found, and its file isn't finished
pub record GroupsCutShort (told : Bool) (A Z : World) (snapshot : List ℕ) (reach least : ℕ) (name : List ℕ) (status : Status) : Type 0 where
  pub catalogue : List GroupData
  pub found : IsTrue told → GroupsOf A.files snapshot reach least catalogue
  pub cut : IsCutShort told A Z name (catalogue_text catalogue) status

-- it is refused by its snapshot, before any file changes, or by its file; or it is done
abbrev pub GroupsDoes : Bool → World → World → List ℕ → ℕ → ℕ → List ℕ → Outcome → Type 0
GroupsDoes told A Z snapshot reach least name (Grouped groups members) = AreGrouped told A Z snapshot reach least name groups members
GroupsDoes told A Z snapshot reach least name (Refused status) =
    (SnapshotRefusal (seen told A Z) snapshot status × SameFiles A Z) ⊎ GroupsCutShort told A Z snapshot reach least name status
GroupsDoes told A Z snapshot reach least name (Ran ended setup) = ⊥
GroupsDoes told A Z snapshot reach least name (Checked B) = ⊥
GroupsDoes told A Z snapshot reach least name (Shown head B) = ⊥
GroupsDoes told A Z snapshot reach least name (Made count made) = ⊥
GroupsDoes told A Z snapshot reach least name (Linked count) = ⊥

-- by what a store tells alone
abbrev pub GroupsBy : {X : Type 0} → store.Ghosts X → X → X → List ℕ → ℕ → ℕ → List ℕ → Outcome → Type 0
GroupsBy S old new snapshot reach least name outcome = GroupsDoes (S.tells old) (told_by S old) (told_by S new) snapshot reach least name outcome
