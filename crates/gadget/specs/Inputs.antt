-- What is read before anything is written, but for the bodies: the parameter file, the list and the tables that it names,
-- and why one of them isn't accepted.
use Rattle.std.specs.Prelude.{◌≡◌, ◌≢◌, ◌⊎◌, ℕ, IsTrue, List, [], Option, Some, None}
use Rattle.store_io.specs.Files.{Files}
use Rattle.text_words.specs.Comments.{lines_in}
use Rattle.nbody_model.specs.Setups.{last_tick}
use Rattle.nbody_model.specs.Tables.{TableData, ExpansionData}
use Rattle.param_file.specs.Settings.{ParamsData, setup_of}
use Rattle.param_file.specs.Reading.{Spell as SpellParams, IsFirstFault as IsParamFault}
use Rattle.output_schedule.specs.Times.{Spell as SpellTimes, IsFirstFault as IsListFault}
use Rattle.param_file.specs.declared.errors.ParamErr.{ParamErr}
use Rattle.param_file.specs.declared.errors.ParamKind.TheVariants.{Memory as ParamMemory}
use Rattle.output_schedule.specs.declared.errors.OutputErr.{OutputErr}
use Rattle.output_schedule.specs.declared.errors.OutputErr.TheVariants.{Memory as NoRoom}
use Rattle.gadget.specs.declared.status.Status.{Status}
use Rattle.gadget.specs.declared.status.Status.TheVariants.{Memory, Param, Outputs}
use Rattle.gadget.specs.declared.inputs.Inputs.{Inputs}
use Rattle.gadget.specs.Reads.{Seen, NotRead, FileSpells, FileHasFault, IfNamed}
use Rattle.gadget.specs.Tables.{GivesTable, TableRefusal}
use Rattle.gadget.specs.Factors.{GivesFactors, FactorsRefusal}

-- the longest files that are read, in bytes
abbrev pub longest_parameters : ℕ
longest_parameters = 65536

abbrev pub longest_list : ℕ
longest_list = 1048576

-- ---- the parameter file

-- the lines of a file spell these settings, or this is their first fault
abbrev pub SpellsParams : List ℕ → ParamsData → Type 0
SpellsParams bytes p = SpellParams (lines_in bytes) p

abbrev pub IsBadParams : List ℕ → ParamErr → Type 0
IsBadParams bytes err = IsParamFault (lines_in bytes) err.line err.kind

-- the file of this name spells these settings
abbrev pub NamesParams : Files → List ℕ → ParamsData → Type 0
NamesParams files name p = FileSpells files name longest_parameters SpellsParams p

-- the file of this name spells no settings, and this is its first fault
abbrev pub HasParamFault : Files → List ℕ → ParamErr → Type 0
HasParamFault files name err = FileHasFault files name longest_parameters IsBadParams err

-- why a parameter file isn't accepted; want of memory is no error of the file
abbrev pub ParamRefusal : Seen → List ℕ → Status → Type 0
ParamRefusal s name (Param err) = (err.kind ≢ ParamMemory) × (IsTrue s.tells → HasParamFault s.files name err)
ParamRefusal s name status = NotRead s name longest_parameters status

-- ---- the output list

-- the lines of a file spell these times, or this is their first fault
abbrev pub SpellsTimes : List ℕ → List ℕ → Type 0
SpellsTimes bytes times = SpellTimes (lines_in bytes) times

abbrev pub IsBadList : List ℕ → OutputErr → Type 0
IsBadList bytes err = IsListFault (lines_in bytes) err

-- the file of this name spells these times
abbrev pub NamesTimes : Files → List ℕ → List ℕ → Type 0
NamesTimes files name times = FileSpells files name longest_list SpellsTimes times

-- the times of a list that may be named, none where it isn't
abbrev pub GivesTimes : Files → Option (List ℕ) → List ℕ → Type 0
GivesTimes files None times = times ≡ []
GivesTimes files (Some name) times = NamesTimes files name times

-- the file of this name spells no times, and this is its first fault
abbrev pub HasListFault : Files → List ℕ → OutputErr → Type 0
HasListFault files name err = FileHasFault files name longest_list IsBadList err

-- why an output list of this name isn't accepted; want of memory is no error of the file
abbrev pub NamedListRefusal : Seen → List ℕ → Status → Type 0
NamedListRefusal s name (Outputs err) = (err ≢ NoRoom) × (IsTrue s.tells → HasListFault s.files name err)
NamedListRefusal s name status = NotRead s name longest_list status

-- why the list that may be named isn't accepted
abbrev pub ListRefusal : Seen → Option (List ℕ) → Status → Type 0
ListRefusal s named status = IfNamed named (λ name. NamedListRefusal s name status)

-- ---- all of them

-- what a run goes by beside its bodies: its settings, the listed times, and the tables of corrections and of factors
pub record InputsData : Type 0 where
  pub params : ParamsData
  pub times : List ℕ
  pub table : Option TableData
  pub factors : Option ExpansionData

-- those of the code
abbrev pub inputs_of : Inputs → InputsData
inputs_of i = record { params = i.params; times = i.outputs.items; table = i.table; factors = i.factors }

-- the parameter file of this name, which asks for nothing that isn't built, and the list and the tables that it names are
-- these
pub record Accepts (files : Files) (name : List ℕ) (i : InputsData) : Type 0 where
  pub params : NamesParams files name i.params
  pub listed : GivesTimes files i.params.output_list_filename i.times
  pub corrected : GivesTable files i.params.ewald_table_file i.table
  pub expanded : GivesFactors files (last_tick (setup_of i.params)) i.params.expansion_table_file i.factors

-- the list isn't accepted, but the parameter file is
pub record RefusesList (s : Seen) (name : List ℕ) (status : Status) : Type 0 where
  pub params : ParamsData
  pub named : IsTrue s.tells → NamesParams s.files name params
  pub refused : ListRefusal s params.output_list_filename status

-- the table of corrections isn't accepted, but the parameter file and the list are
pub record RefusesTable (s : Seen) (name : List ℕ) (status : Status) : Type 0 where
  pub params : ParamsData
  pub named : IsTrue s.tells → NamesParams s.files name params
  pub times : List ℕ
  pub listed : IsTrue s.tells → GivesTimes s.files params.output_list_filename times
  pub refused : TableRefusal s params.ewald_table_file status

-- the table of factors isn't accepted, but the parameter file, the list and the table of corrections are
pub record RefusesFactors (s : Seen) (name : List ℕ) (status : Status) : Type 0 where
  pub params : ParamsData
  pub named : IsTrue s.tells → NamesParams s.files name params
  pub times : List ℕ
  pub listed : IsTrue s.tells → GivesTimes s.files params.output_list_filename times
  pub table : Option TableData
  pub corrected : IsTrue s.tells → GivesTable s.files params.ewald_table_file table
  pub refused : FactorsRefusal s (last_tick (setup_of params)) params.expansion_table_file status

-- the first refusal, in the order of reading: parameter file, list, table of corrections, table of factors
abbrev pub FirstRefusal : Seen → List ℕ → Status → Type 0
FirstRefusal s name status = ParamRefusal s name status ⊎ (RefusesList s name status ⊎ (RefusesTable s name status ⊎ RefusesFactors s name status))

-- ---- the answers of the readers alone

abbrev pub ParamAnswer : List ℕ → Status → Type 0
ParamAnswer bytes (Param err) = (err.kind ≢ ParamMemory) × IsBadParams bytes err
ParamAnswer bytes Memory = Unit {0}
ParamAnswer bytes status = ⊥

abbrev pub ListAnswer : List ℕ → Status → Type 0
ListAnswer bytes (Outputs err) = (err ≢ NoRoom) × IsBadList bytes err
ListAnswer bytes Memory = Unit {0}
ListAnswer bytes status = ⊥
