-- What each check after the last line finds, where no line is at fault.
use Rattle.std.specs.Prelude.{◌≡◌, ℕ, ◌<◌, ◌≤◌, max, true, false, List, None, Some, IfSome, option_map}
use Rattle.param_file.specs.Reading.{Said, missing, number_of_row, line_of_row, word_of_row, line_of_name, value_fault, as_value, IsFirstClash}
use Rattle.param_file.specs.Rows.{range_of}
use Rattle.param_file.specs.Settings.{ParamsData, clash_at, value_in}
use Rattle.param_file.specs.declared.names.ParamName.{ParamName}
use Rattle.param_file.specs.declared.names.ParamName.TheVariants.{LowBin, TopBin}
use Rattle.param_file.specs.declared.errors.ParamKind.{ParamKind}
use Rattle.param_file.specs.declared.errors.ParamKind.TheVariants.{OutOfRange, Missing, Clash}

-- this required row is missing, and no earlier one
pub record IsMissingFault (known : List Said) (line : ℕ) (kind : ParamKind) : Type 0 where
  pub row : ParamName
  pub first : missing known ≡ Some row
  pub counted : line ≡ 0
  pub is : kind ≡ Missing row

-- the bins aren't in order
pub record IsBinFault (known : List Said) (line : ℕ) (kind : ParamKind) : Type 0 where
  pub crossed : number_of_row known TopBin < number_of_row known LowBin
  pub counted : line ≡ max (line_of_row known LowBin) (line_of_row known TopBin)
  pub is : kind ≡ OutOfRange

-- the i-th row of names clashes with one behind it, and the line is the later of the two for the first such
pub record ClashesAt (known : List Said) (i line : ℕ) : Type 0 where
  pub other : ℕ
  pub behind : i < other
  pub inside : other < 9
  pub clash : clash_at (word_of_row known) i other ≡ true
  pub between : (k : ℕ) → i < k → k < other → clash_at (word_of_row known) i k ≡ false
  pub counted : line ≡ max (line_of_name known i) (line_of_name known other)

-- no two rows of names clash
pub record AreApart (known : List Said) : Type 0 where
  pub apart : (i j : ℕ) → i < j → j < 9 → clash_at (word_of_row known) i j ≡ false

-- two names clash
pub record IsClashFault (known : List Said) (line : ℕ) (kind : ParamKind) : Type 0 where
  pub first_row : ℕ
  pub second_row : ℕ
  pub first : IsFirstClash known first_row second_row
  pub counted : line ≡ max (line_of_name known first_row) (line_of_name known second_row)
  pub is : kind ≡ Clash

-- what the lines say is accepted: every value lies in the range of its row, no required row is missing, the bins
-- are in order, and no two names clash
pub record IsAccepted (known : List Said) : Type 0 where
  pub fits : (row : ParamName) → IfSome (word_of_row known row) (λ word. value_fault (range_of row) word ≡ None)
  pub complete : missing known ≡ None
  pub ordered : number_of_row known LowBin ≤ number_of_row known TopBin
  pub apart : AreApart known

-- these settings have what the lines say
pub record Gives (known : List Said) (p : ParamsData) : Type 0 where
  pub values : (row : ParamName) → option_map (as_value (range_of row)) (word_of_row known row) ≡ value_in p row
