-- The bytes of written settings.
use Rattle.std.specs.Prelude.{ℕ, List, [], ◌∷◌, ◌++◌, Option, None, Some, decimal}
use Rattle.std.specs.List.{flat_map}
use Rattle.param_file.specs.Rows.{all_rows, name_of}
use Rattle.param_file.specs.Settings.{ParamsData, Value, text, number, value_in}
use Rattle.param_file.specs.declared.names.ParamName.{ParamName}

-- a value as a word: a name as it is, a number in decimal
abbrev pub word_of : Value → List ℕ
word_of (text name) = name
word_of (number n) = decimal n

-- the line of a row: its name, a space (32), its value and LF (10); nothing where it has none
abbrev pub row_text : List ℕ → Option Value → List ℕ
row_text name None = []
row_text name (Some value) = name ++ 32 ∷ word_of value ++ 10 ∷ []

abbrev pub rows_text : ParamsData → List ParamName → List ℕ
rows_text p rows = flat_map (λ row. row_text (name_of row) (value_in p row)) rows

-- the lines of all rows, in the order of the table
unfoldable pub params_text : ParamsData → List ℕ
params_text p = rows_text p all_rows
