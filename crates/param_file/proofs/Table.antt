-- What the rows of the table are, row by row.
use Rattle.std.proofs.Common.{◌≡◌, ℕ, ◌<◌, Bool, true, false, not, ◌&&◌, List, [], ◌∷◌, length, get_or, Some, None, refl, sym, ap, ◌∙◌, arith}
use Rattle.std.specs.Prelude.{IfSome}
use Rattle.std.specs.List.{list_any}
use Rattle.std.specs.Str.{bytes_eq}
use Rattle.std.proofs.lemmas.Slice.Eq.{bytes_eq-Decides}
use Rattle.text_words.specs.Comments.{begins_comment}
use Rattle.param_file.specs.Reading.{value_fault}
use Rattle.param_file.specs.Rows.{all_rows, default_of, name_of, range_of, row_named}
use Rattle.param_file.specs.declared.names.ParamName.{ParamName}
use Rattle.param_file.specs.declared.names.ParamName.TheVariants.{InitCondFile, SnapshotFileBase, OutputListFilename, EwaldTableFile, RestartFileBase, KickFile, RankTraceFile, TimeMax, LowBin, TopBin, ErrTolTheta, ErrTolIntAccuracy, GravityConstantInternal, VelocityShift, SofteningType1, SofteningType2, SofteningType3, SofteningType4, SofteningType5, RestartEvery, RankTrace, DeliverySeed, ExpansionTableFile, BinFile}
use Rattle.param_file.proofs.Plain.{IsPlain}

-- each name is that of its row alone
pub row_named_of : (row : ParamName) → row_named (name_of row) ≡ Some row
row_named_of InitCondFile = refl
row_named_of SnapshotFileBase = refl
row_named_of OutputListFilename = refl
row_named_of EwaldTableFile = refl
row_named_of RestartFileBase = refl
row_named_of KickFile = refl
row_named_of RankTraceFile = refl
row_named_of TimeMax = refl
row_named_of LowBin = refl
row_named_of TopBin = refl
row_named_of ErrTolTheta = refl
row_named_of ErrTolIntAccuracy = refl
row_named_of GravityConstantInternal = refl
row_named_of VelocityShift = refl
row_named_of SofteningType1 = refl
row_named_of SofteningType2 = refl
row_named_of SofteningType3 = refl
row_named_of SofteningType4 = refl
row_named_of SofteningType5 = refl
row_named_of RestartEvery = refl
row_named_of RankTrace = refl
row_named_of DeliverySeed = refl
row_named_of ExpansionTableFile = refl
row_named_of BinFile = refl

-- each default lies in the range of its row
pub default_fits : (row : ParamName) → IfSome (default_of row) (λ word. value_fault (range_of row) word ≡ None)
default_fits InitCondFile = tt
default_fits SnapshotFileBase = tt
default_fits OutputListFilename = tt
default_fits EwaldTableFile = tt
default_fits RestartFileBase = refl
default_fits KickFile = refl
default_fits RankTraceFile = refl
default_fits TimeMax = tt
default_fits LowBin = tt
default_fits TopBin = tt
default_fits ErrTolTheta = tt
default_fits ErrTolIntAccuracy = tt
default_fits GravityConstantInternal = tt
default_fits VelocityShift = tt
default_fits SofteningType1 = refl
default_fits SofteningType2 = refl
default_fits SofteningType3 = refl
default_fits SofteningType4 = refl
default_fits SofteningType5 = refl
default_fits RestartEvery = refl
default_fits RankTrace = refl
default_fits DeliverySeed = refl
default_fits ExpansionTableFile = tt
default_fits BinFile = tt

-- the place of a row in the table, from 0
pub place : ParamName → ℕ
place InitCondFile = 0
place SnapshotFileBase = 1
place OutputListFilename = 2
place EwaldTableFile = 3
place RestartFileBase = 4
place KickFile = 5
place RankTraceFile = 6
place TimeMax = 7
place LowBin = 8
place TopBin = 9
place ErrTolTheta = 10
place ErrTolIntAccuracy = 11
place GravityConstantInternal = 12
place VelocityShift = 13
place SofteningType1 = 14
place SofteningType2 = 15
place SofteningType3 = 16
place SofteningType4 = 17
place SofteningType5 = 18
place RestartEvery = 19
place RankTrace = 20
place DeliverySeed = 21
place ExpansionTableFile = 22
place BinFile = 23

pub row_at_place : (row : ParamName) → get_or all_rows (place row) InitCondFile ≡ row
unfolding place
row_at_place InitCondFile = refl
row_at_place SnapshotFileBase = refl
row_at_place OutputListFilename = refl
row_at_place EwaldTableFile = refl
row_at_place RestartFileBase = refl
row_at_place KickFile = refl
row_at_place RankTraceFile = refl
row_at_place TimeMax = refl
row_at_place LowBin = refl
row_at_place TopBin = refl
row_at_place ErrTolTheta = refl
row_at_place ErrTolIntAccuracy = refl
row_at_place GravityConstantInternal = refl
row_at_place VelocityShift = refl
row_at_place SofteningType1 = refl
row_at_place SofteningType2 = refl
row_at_place SofteningType3 = refl
row_at_place SofteningType4 = refl
row_at_place SofteningType5 = refl
row_at_place RestartEvery = refl
row_at_place RankTrace = refl
row_at_place DeliverySeed = refl
row_at_place ExpansionTableFile = refl
row_at_place BinFile = refl

pub place-lt : (row : ParamName) → place row < length all_rows
unfolding place
place-lt InitCondFile = omega arith
place-lt SnapshotFileBase = omega arith
place-lt OutputListFilename = omega arith
place-lt EwaldTableFile = omega arith
place-lt RestartFileBase = omega arith
place-lt KickFile = omega arith
place-lt RankTraceFile = omega arith
place-lt TimeMax = omega arith
place-lt LowBin = omega arith
place-lt TopBin = omega arith
place-lt ErrTolTheta = omega arith
place-lt ErrTolIntAccuracy = omega arith
place-lt GravityConstantInternal = omega arith
place-lt VelocityShift = omega arith
place-lt SofteningType1 = omega arith
place-lt SofteningType2 = omega arith
place-lt SofteningType3 = omega arith
place-lt SofteningType4 = omega arith
place-lt SofteningType5 = omega arith
place-lt RestartEvery = omega arith
place-lt RankTrace = omega arith
place-lt DeliverySeed = omega arith
place-lt ExpansionTableFile = omega arith
place-lt BinFile = omega arith

-- no name begins a comment
pub no_comment : (row : ParamName) → begins_comment (name_of row) ≡ false
no_comment InitCondFile = refl
no_comment SnapshotFileBase = refl
no_comment OutputListFilename = refl
no_comment EwaldTableFile = refl
no_comment RestartFileBase = refl
no_comment KickFile = refl
no_comment RankTraceFile = refl
no_comment TimeMax = refl
no_comment LowBin = refl
no_comment TopBin = refl
no_comment ErrTolTheta = refl
no_comment ErrTolIntAccuracy = refl
no_comment GravityConstantInternal = refl
no_comment VelocityShift = refl
no_comment SofteningType1 = refl
no_comment SofteningType2 = refl
no_comment SofteningType3 = refl
no_comment SofteningType4 = refl
no_comment SofteningType5 = refl
no_comment RestartEvery = refl
no_comment RankTrace = refl
no_comment DeliverySeed = refl
no_comment ExpansionTableFile = refl
no_comment BinFile = refl

-- each name is visible
pub name_plain : (row : ParamName) → IsPlain (name_of row)
name_plain InitCondFile = record { some = omega arith; visible = refl }
name_plain SnapshotFileBase = record { some = omega arith; visible = refl }
name_plain OutputListFilename = record { some = omega arith; visible = refl }
name_plain EwaldTableFile = record { some = omega arith; visible = refl }
name_plain RestartFileBase = record { some = omega arith; visible = refl }
name_plain KickFile = record { some = omega arith; visible = refl }
name_plain RankTraceFile = record { some = omega arith; visible = refl }
name_plain TimeMax = record { some = omega arith; visible = refl }
name_plain LowBin = record { some = omega arith; visible = refl }
name_plain TopBin = record { some = omega arith; visible = refl }
name_plain ErrTolTheta = record { some = omega arith; visible = refl }
name_plain ErrTolIntAccuracy = record { some = omega arith; visible = refl }
name_plain GravityConstantInternal = record { some = omega arith; visible = refl }
name_plain VelocityShift = record { some = omega arith; visible = refl }
name_plain SofteningType1 = record { some = omega arith; visible = refl }
name_plain SofteningType2 = record { some = omega arith; visible = refl }
name_plain SofteningType3 = record { some = omega arith; visible = refl }
name_plain SofteningType4 = record { some = omega arith; visible = refl }
name_plain SofteningType5 = record { some = omega arith; visible = refl }
name_plain RestartEvery = record { some = omega arith; visible = refl }
name_plain RankTrace = record { some = omega arith; visible = refl }
name_plain DeliverySeed = record { some = omega arith; visible = refl }
name_plain ExpansionTableFile = record { some = omega arith; visible = refl }
name_plain BinFile = record { some = omega arith; visible = refl }

-- the row is among these
abbrev pub has : ParamName → List ParamName → Bool
has row rows = list_any (λ x. bytes_eq (name_of x) (name_of row)) rows

pub has_all : (row : ParamName) → has row all_rows ≡ true
has_all InitCondFile = refl
has_all SnapshotFileBase = refl
has_all OutputListFilename = refl
has_all EwaldTableFile = refl
has_all RestartFileBase = refl
has_all KickFile = refl
has_all RankTraceFile = refl
has_all TimeMax = refl
has_all LowBin = refl
has_all TopBin = refl
has_all ErrTolTheta = refl
has_all ErrTolIntAccuracy = refl
has_all GravityConstantInternal = refl
has_all VelocityShift = refl
has_all SofteningType1 = refl
has_all SofteningType2 = refl
has_all SofteningType3 = refl
has_all SofteningType4 = refl
has_all SofteningType5 = refl
has_all RestartEvery = refl
has_all RankTrace = refl
has_all DeliverySeed = refl
has_all ExpansionTableFile = refl
has_all BinFile = refl

-- no row stands twice
abbrev pub are_distinct : List ParamName → Bool
are_distinct [] = true
are_distinct (x ∷ rows) = not (has x rows) && are_distinct rows

pub all_distinct : are_distinct all_rows ≡ true
all_distinct = refl

pub same_row : (x y : ParamName) → bytes_eq (name_of x) (name_of y) ≡ true → x ≡ y
same_row x y e = let same : Some x ≡ Some y = sym (row_named_of x) ∙ ap row_named ((bytes_eq-Decides (name_of x) (name_of y)).0 e) ∙ row_named_of y in cc
