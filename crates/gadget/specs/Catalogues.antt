-- A catalogue that is read, and why it isn't accepted.
use Rattle.std.specs.Prelude.{◌≡◌, ◌≢◌, ℕ, IsTrue, List}
use Rattle.store_io.specs.Files.{Files}
use Rattle.group_file.specs.Catalogues.{GroupData}
use Rattle.group_file.specs.GroupFile.{Spell, IsFirstFault}
use Rattle.group_file.specs.declared.errors.GroupErr.{GroupErr}
use Rattle.group_file.specs.declared.errors.GroupErr.TheVariants.{Memory as NoRoom}
use Rattle.gadget.specs.declared.status.Status.{Status}
use Rattle.gadget.specs.declared.status.Status.TheVariants.{Memory, Catalogue}
use Rattle.gadget.specs.Reads.{Seen, NotRead, FileSpells, FileHasFault}

-- the longest catalogue, in bytes
abbrev pub longest_catalogue : ℕ
longest_catalogue = 268435456

-- the file of this name is a catalogue of these groups
abbrev pub NamesCatalogue : Files → List ℕ → List GroupData → Type 0
NamesCatalogue files name C = FileSpells files name longest_catalogue Spell C

-- the file of this name is no catalogue, and this is its first fault
abbrev pub HasCatalogueFault : Files → List ℕ → GroupErr → Type 0
HasCatalogueFault files name err = FileHasFault files name longest_catalogue IsFirstFault err

-- why a catalogue isn't accepted; want of memory is no error of the file
abbrev pub CatalogueRefusal : Seen → List ℕ → Status → Type 0
CatalogueRefusal s name (Catalogue n err) = (n ≡ name) × (err ≢ NoRoom) × (IsTrue s.tells → HasCatalogueFault s.files name err)
CatalogueRefusal s name status = NotRead s name longest_catalogue status

-- the answers of the reader alone
abbrev pub CatalogueAnswer : List ℕ → List ℕ → Status → Type 0
CatalogueAnswer name bytes (Catalogue n err) = (n ≡ name) × (err ≢ NoRoom) × IsFirstFault bytes err
CatalogueAnswer name bytes Memory = Unit {0}
CatalogueAnswer name bytes status = ⊥
