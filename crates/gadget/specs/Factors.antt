-- The table of factors that a parameter file may name, and why one isn't accepted.
use Rattle.std.specs.Prelude.{◌≡◌, ◌≢◌, ℕ, IsTrue, List, Option, Some, None}
use Rattle.store_io.specs.Files.{Files}
use Rattle.nbody_model.specs.Tables.{ExpansionData}
use Rattle.expansion_table.specs.ExpansionFile.{Spell, IsFirstFault}
use Rattle.expansion_table.specs.declared.errors.ExpErr.{ExpErr}
use Rattle.expansion_table.specs.declared.errors.ExpErr.TheVariants.{Memory as NoRoom}
use Rattle.gadget.specs.declared.status.Status.{Status}
use Rattle.gadget.specs.declared.status.Status.TheVariants.{Memory, Expansion}
use Rattle.gadget.specs.Reads.{Seen, NotRead, FileSpells, FileHasFault, IfNamed}
use Rattle.gadget.specs.Tables.{longest_table}

-- bytes spell a table for a run up to a last tick, or this is their first fault
abbrev pub SpellsFactors : ℕ → List ℕ → ExpansionData → Type 0
SpellsFactors last bytes t = Spell bytes last t

abbrev pub IsBadFactors : ℕ → List ℕ → ExpErr → Type 0
IsBadFactors last bytes err = IsFirstFault bytes last err

-- the file of this name spells this table, for a run up to a last tick
abbrev pub NamesFactors : Files → ℕ → List ℕ → ExpansionData → Type 0
NamesFactors files last name t = FileSpells files name longest_table (SpellsFactors last) t

-- the table of a file that may be named, none where it isn't
abbrev pub GivesFactors : Files → ℕ → Option (List ℕ) → Option ExpansionData → Type 0
GivesFactors files last None table = table ≡ None
GivesFactors files last (Some name) None = ⊥
GivesFactors files last (Some name) (Some t) = NamesFactors files last name t

-- the file of this name spells no table, and this is its first fault
abbrev pub HasFactorsFault : Files → ℕ → List ℕ → ExpErr → Type 0
HasFactorsFault files last name err = FileHasFault files name longest_table (IsBadFactors last) err

-- why a table of this name isn't accepted; want of memory is no error of the file
abbrev pub NamedFactorsRefusal : Seen → ℕ → List ℕ → Status → Type 0
NamedFactorsRefusal s last name (Expansion err) = (err ≢ NoRoom) × (IsTrue s.tells → HasFactorsFault s.files last name err)
NamedFactorsRefusal s last name status = NotRead s name longest_table status

-- why the table that may be named isn't accepted
abbrev pub FactorsRefusal : Seen → ℕ → Option (List ℕ) → Status → Type 0
FactorsRefusal s last named status = IfNamed named (λ name. NamedFactorsRefusal s last name status)

-- the answers of the reader alone
abbrev pub FactorsAnswer : List ℕ → ℕ → Status → Type 0
FactorsAnswer bytes last (Expansion err) = (err ≢ NoRoom) × IsFirstFault bytes last err
FactorsAnswer bytes last Memory = Unit {0}
FactorsAnswer bytes last status = ⊥
