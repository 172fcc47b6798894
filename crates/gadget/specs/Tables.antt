-- The tables that a parameter file may name, and why one isn't accepted.
use Rattle.std.specs.Prelude.{◌≡◌, ◌≢◌, ℕ, IsTrue, List, Option, Some, None}
use Rattle.store_io.specs.Files.{Files}
use Rattle.nbody_model.specs.Tables.{TableData}
use Rattle.ewald_table.specs.TableFile.{Spell, IsFirstFault}
use Rattle.ewald_table.specs.declared.errors.TableErr.{TableErr}
use Rattle.ewald_table.specs.declared.errors.TableErr.TheVariants.{Memory as NoRoom}
use Rattle.gadget.specs.declared.status.Status.{Status}
use Rattle.gadget.specs.declared.status.Status.TheVariants.{Memory, Table}
use Rattle.gadget.specs.Reads.{Seen, NotRead, FileSpells, FileHasFault, IfNamed}

-- the longest tables, in bytes
abbrev pub longest_table : ℕ
longest_table = 4194304

-- the file of this name spells this table
abbrev pub NamesTable : Files → List ℕ → TableData → Type 0
NamesTable files name t = FileSpells files name longest_table Spell t

-- the table of a file that may be named, none where it isn't
abbrev pub GivesTable : Files → Option (List ℕ) → Option TableData → Type 0
GivesTable files None table = table ≡ None
GivesTable files (Some name) None = ⊥
GivesTable files (Some name) (Some t) = NamesTable files name t

-- the file of this name spells no table, and this is its first fault
abbrev pub HasTableFault : Files → List ℕ → TableErr → Type 0
HasTableFault files name err = FileHasFault files name longest_table IsFirstFault err

-- why a table of this name isn't accepted; want of memory is no error of the file
abbrev pub NamedTableRefusal : Seen → List ℕ → Status → Type 0
NamedTableRefusal s name (Table err) = (err ≢ NoRoom) × (IsTrue s.tells → HasTableFault s.files name err)
NamedTableRefusal s name status = NotRead s name longest_table status

-- why the table that may be named isn't accepted
abbrev pub TableRefusal : Seen → Option (List ℕ) → Status → Type 0
TableRefusal s named status = IfNamed named (λ name. NamedTableRefusal s name status)

-- the answers of the reader alone
abbrev pub TableAnswer : List ℕ → Status → Type 0
TableAnswer bytes (Table err) = (err ≢ NoRoom) × IsFirstFault bytes err
TableAnswer bytes Memory = Unit {0}
TableAnswer bytes status = ⊥
