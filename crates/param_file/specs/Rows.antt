-- The rows of the table of parameters.
use Rattle.std.specs.Prelude.{ℕ, ◌≤◌, Bool, true, false, List, [], ◌∷◌, Option, None, Some, codes}
use Rattle.std.specs.List.{find}
use Rattle.std.specs.Str.{bytes_eq}
use Rattle.param_file.specs.declared.names.ParamName.{ParamName}
use Rattle.param_file.specs.declared.names.ParamName.TheVariants.{InitCondFile, SnapshotFileBase, OutputListFilename, EwaldTableFile, RestartFileBase, KickFile, RankTraceFile, TimeMax, LowBin, TopBin, ErrTolTheta, ErrTolIntAccuracy, GravityConstantInternal, VelocityShift, SofteningType1, SofteningType2, SofteningType3, SofteningType4, SofteningType5, RestartEvery, RankTrace, DeliverySeed, ExpansionTableFile, BinFile}
use Rattle.param_file.specs.declared.names.Range.{Range}
use Rattle.param_file.specs.declared.names.Range.TheVariants.{Name, Number}

-- all rows, in the order of the table
abbrev pub all_rows : List ParamName
all_rows = InitCondFile ∷ SnapshotFileBase ∷ OutputListFilename ∷ EwaldTableFile ∷ RestartFileBase ∷
    KickFile ∷ RankTraceFile ∷ TimeMax ∷ LowBin ∷ TopBin ∷ ErrTolTheta ∷ ErrTolIntAccuracy ∷
    GravityConstantInternal ∷ VelocityShift ∷ SofteningType1 ∷ SofteningType2 ∷ SofteningType3 ∷
    SofteningType4 ∷ SofteningType5 ∷ RestartEvery ∷ RankTrace ∷ DeliverySeed ∷ ExpansionTableFile ∷
    BinFile ∷ []

-- the rows whose values are names of files, in the order of the table
abbrev pub name_rows : List ParamName
name_rows = InitCondFile ∷ SnapshotFileBase ∷ OutputListFilename ∷ EwaldTableFile ∷ RestartFileBase ∷
    KickFile ∷ RankTraceFile ∷ ExpansionTableFile ∷ BinFile ∷ []

-- the name of a row
abbrev pub name_of : ParamName → List ℕ
name_of InitCondFile = codes "InitCondFile"
name_of SnapshotFileBase = codes "SnapshotFileBase"
name_of OutputListFilename = codes "OutputListFilename"
name_of EwaldTableFile = codes "EwaldTableFile"
name_of RestartFileBase = codes "RestartFileBase"
name_of KickFile = codes "KickFile"
name_of RankTraceFile = codes "RankTraceFile"
name_of TimeMax = codes "TimeMax"
name_of LowBin = codes "LowBin"
name_of TopBin = codes "TopBin"
name_of ErrTolTheta = codes "ErrTolTheta"
name_of ErrTolIntAccuracy = codes "ErrTolIntAccuracy"
name_of GravityConstantInternal = codes "GravityConstantInternal"
name_of VelocityShift = codes "VelocityShift"
name_of SofteningType1 = codes "SofteningType1"
name_of SofteningType2 = codes "SofteningType2"
name_of SofteningType3 = codes "SofteningType3"
name_of SofteningType4 = codes "SofteningType4"
name_of SofteningType5 = codes "SofteningType5"
name_of RestartEvery = codes "RestartEvery"
name_of RankTrace = codes "RankTrace"
name_of DeliverySeed = codes "DeliverySeed"
name_of ExpansionTableFile = codes "ExpansionTableFile"
name_of BinFile = codes "BinFile"

-- the values that a row may have: a name of a file, or a number between two ends
abbrev pub range_of : ParamName → Range
range_of InitCondFile = Name
range_of SnapshotFileBase = Name
range_of OutputListFilename = Name
range_of EwaldTableFile = Name
range_of RestartFileBase = Name
range_of KickFile = Name
range_of RankTraceFile = Name
range_of TimeMax = Number 0 1099511627776
range_of LowBin = Number 1 20
range_of TopBin = Number 1 20
range_of ErrTolTheta = Number 0 256
range_of ErrTolIntAccuracy = Number 1 65536
range_of GravityConstantInternal = Number 0 4294967296
range_of VelocityShift = Number 0 40
range_of SofteningType1 = Number 256 1073741824
range_of SofteningType2 = Number 256 1073741824
range_of SofteningType3 = Number 256 1073741824
range_of SofteningType4 = Number 256 1073741824
range_of SofteningType5 = Number 256 1073741824
range_of RestartEvery = Number 0 1000000
range_of RankTrace = Number 0 1
range_of DeliverySeed = Number 0 18446744073709551615
range_of ExpansionTableFile = Name
range_of BinFile = Name

-- the value of a row that no line names, if it has one
abbrev pub default_of : ParamName → Option (List ℕ)
default_of InitCondFile = None
default_of SnapshotFileBase = None
default_of OutputListFilename = None
default_of EwaldTableFile = None
default_of RestartFileBase = Some (codes "restart")
default_of KickFile = Some (codes "kicks.txt")
default_of RankTraceFile = Some (codes "ranktrace.txt")
default_of TimeMax = None
default_of LowBin = None
default_of TopBin = None
default_of ErrTolTheta = None
default_of ErrTolIntAccuracy = None
default_of GravityConstantInternal = None
default_of VelocityShift = None
default_of SofteningType1 = Some (codes "256")
default_of SofteningType2 = Some (codes "256")
default_of SofteningType3 = Some (codes "256")
default_of SofteningType4 = Some (codes "256")
default_of SofteningType5 = Some (codes "256")
default_of RestartEvery = Some (codes "0")
default_of RankTrace = Some (codes "0")
default_of DeliverySeed = Some (codes "1")
default_of ExpansionTableFile = None
default_of BinFile = None

-- some line has to name the row
abbrev pub is_required : ParamName → Bool
is_required InitCondFile = true
is_required SnapshotFileBase = true
is_required OutputListFilename = false
is_required EwaldTableFile = false
is_required RestartFileBase = false
is_required KickFile = false
is_required RankTraceFile = false
is_required TimeMax = true
is_required LowBin = true
is_required TopBin = true
is_required ErrTolTheta = true
is_required ErrTolIntAccuracy = true
is_required GravityConstantInternal = true
is_required VelocityShift = true
is_required SofteningType1 = false
is_required SofteningType2 = false
is_required SofteningType3 = false
is_required SofteningType4 = false
is_required SofteningType5 = false
is_required RestartEvery = false
is_required RankTrace = false
is_required DeliverySeed = false
is_required ExpansionTableFile = false
is_required BinFile = false

-- the row of a name
abbrev pub row_named : List ℕ → Option ParamName
row_named name = find (λ row. bytes_eq (name_of row) name) all_rows

-- the ends of a range are in order
abbrev pub IsRange : Range → Type 0
IsRange Name = Unit {0}
IsRange (Number low high) = low ≤ high
