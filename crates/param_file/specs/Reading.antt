-- What the lines of a parameter file say, and the first fault where they say no settings.
use Rattle.std.specs.Prelude.{◌≡◌, ℕ, ◌+◌, ◌<◌, ◌≤◌, ◌⊎◌, max, Bool, true, false, not, ◌&&◌, nat_le, if◌then◌else◌, List, [], ◌∷◌, length, take, get_or, Option, None, Some, option_map, Result, Ok, Err}
use Rattle.std.specs.List.{find, list_any, cons_option}
use Rattle.std.specs.Option.{option_or}
use Rattle.std.specs.Str.{bytes_eq}
use Rattle.store_io.specs.Names.{is_name}
use Rattle.text_words.specs.Comments.{Line, begins_comment}
use Rattle.text_words.specs.Numbers.{whole_number, value_of}
use Rattle.text_words.specs.declared.number.NumErr.{NumErr}
use Rattle.text_words.specs.declared.number.NumErr.TheVariants.{Empty, NotDigit, TooLarge}
use Rattle.param_file.specs.Rows.{all_rows, name_rows, name_of, range_of, default_of, is_required, row_named}
use Rattle.param_file.specs.Settings.{ParamsData, IsParams, Value, text, number, value_in, clash_at}
use Rattle.param_file.specs.declared.names.ParamName.{ParamName}
use Rattle.param_file.specs.declared.names.ParamName.TheVariants.{LowBin, TopBin, InitCondFile}
use Rattle.param_file.specs.declared.names.Range.{Range}
use Rattle.param_file.specs.declared.names.Range.TheVariants.{Name, Number}
use Rattle.param_file.specs.declared.errors.ParamKind.{ParamKind}
use Rattle.param_file.specs.declared.errors.ParamKind.TheVariants.{Unknown, NoValue, Repeated, NotNumber, OutOfRange, Missing, Clash}

-- what a line says: its number from 1, its first word and its second (or no byte where it has none);
-- a default says it on line 0
pub record Said : Type 0 where
  pub line : ℕ
  pub name : List ℕ
  pub value : List ℕ

-- what line n says, if it isn't passed over
abbrev pub said : ℕ → Line → Option Said
said n [] = None
said n (name ∷ words) = if begins_comment name then None else Some (record { line = n; name = name; value = get_or words 0 [] })

-- what the lines behind the first n say
abbrev pub said_from : ℕ → List Line → List Said
said_from n [] = []
said_from n (line ∷ lines) = cons_option (said (n + 1) line) (said_from (n + 1) lines)

-- what the lines say
abbrev pub all_said : List Line → List Said
all_said lines = said_from 0 lines

-- what is wrong with a value, if anything
abbrev pub number_fault : ℕ → ℕ → Result ℕ NumErr → Option ParamKind
number_fault low high (Ok n) = if nat_le low n && nat_le n high then None else Some OutOfRange
number_fault low high (Err TooLarge) = Some OutOfRange
number_fault low high (Err NotDigit) = Some NotNumber
number_fault low high (Err Empty) = Some NotNumber

abbrev pub value_fault : Range → List ℕ → Option ParamKind
value_fault Name value = if is_name value then None else Some OutOfRange
value_fault (Number low high) value = number_fault low high (whole_number value)

-- what is wrong with a line whose name is of this row, where the name stood before or not, and with these words
-- behind the name
abbrev pub row_fault : Option ParamName → Bool → List (List ℕ) → Option ParamKind
row_fault None stood words = Some Unknown
row_fault (Some row) true words = Some Repeated
row_fault (Some row) false [] = Some NoValue
row_fault (Some row) false (value ∷ words) = value_fault (range_of row) value

-- this name stands among what was said
abbrev pub stands : List Said → List ℕ → Bool
stands known name = list_any (λ s. bytes_eq s.name name) known

-- what is wrong with a line behind these, if anything
abbrev pub fault_behind : List Said → Line → Option ParamKind
fault_behind known [] = None
fault_behind known (name ∷ words) = if begins_comment name then None else row_fault (row_named name) (stands known name) words

-- none of the first n lines is at fault
abbrev pub AreGood : List Line → ℕ → Type 0
AreGood lines n = (k : ℕ) → k < n → fault_behind (all_said (take k lines)) (get_or lines k []) ≡ None

-- the default of a row
abbrev pub default_said : ParamName → Option Said
default_said row = option_map (λ value. record { line = 0; name = name_of row; value = value }) (default_of row)

-- what the line says that names the row, or its default
abbrev pub said_of_row : List Said → ParamName → Option Said
said_of_row known row = option_or (find (λ s. bytes_eq s.name (name_of row)) known) (default_said row)

-- the word that is the value of the row
abbrev pub word_of_row : List Said → ParamName → Option (List ℕ)
word_of_row known row = option_map (λ s. s.value) (said_of_row known row)

-- a word as a value of a row with this range
abbrev pub as_value : Range → List ℕ → Value
as_value Name word = text word
as_value (Number low high) word = number (value_of word)

-- the lines spell these settings: no line is at fault, and the value of each row is that of the line that names
-- it, or the default
pub record Spell (lines : List Line) (p : ParamsData) : Type 0 where
  pub good : AreGood lines (length lines)
  pub values : (row : ParamName) → option_map (as_value (range_of row)) (word_of_row (all_said lines) row) ≡ value_in p row
  pub accepted : IsParams p

-- some line has to name this row, and none does
unfoldable pub is_absent : List Said → ParamName → Bool
is_absent known row = is_required row && not (stands known (name_of row))

-- the first required row that no line names
abbrev pub missing : List Said → Option ParamName
missing known = find (is_absent known) all_rows

-- the number that was read, or 0
abbrev pub number_or_0 : Result ℕ NumErr → ℕ
number_or_0 (Ok n) = n
number_or_0 (Err e) = 0

abbrev pub number_of_word : Option (List ℕ) → ℕ
number_of_word None = 0
number_of_word (Some word) = number_or_0 (whole_number word)

-- the number of a row, or 0 where it has none
abbrev pub number_of_row : List Said → ParamName → ℕ
number_of_row known row = number_of_word (word_of_row known row)

-- the line of what was said, or 0 where nothing was
abbrev pub line_of_said : Option Said → ℕ
line_of_said None = 0
line_of_said (Some s) = s.line

abbrev pub line_of_row : List Said → ParamName → ℕ
line_of_row known row = line_of_said (said_of_row known row)

-- a line is at fault, and none before it
pub record IsAtLine (lines : List Line) (line : ℕ) (kind : ParamKind) : Type 0 where
  pub index : ℕ
  pub inside : index < length lines
  pub counted : line ≡ index + 1
  pub before : AreGood lines index
  pub is : fault_behind (all_said (take index lines)) (get_or lines index []) ≡ Some kind

-- no line is at fault, and this is the first required row that none names
pub record IsMissing (lines : List Line) (line : ℕ) (kind : ParamKind) : Type 0 where
  pub good : AreGood lines (length lines)
  pub row : ParamName
  pub first : missing (all_said lines) ≡ Some row
  pub counted : line ≡ 0
  pub is : kind ≡ Missing row

-- no row is missing, and `LowBin` is above `TopBin`; the line is the later of their two
pub record AreBinsCrossed (lines : List Line) (line : ℕ) (kind : ParamKind) : Type 0 where
  pub good : AreGood lines (length lines)
  pub complete : missing (all_said lines) ≡ None
  pub crossed : number_of_row (all_said lines) TopBin < number_of_row (all_said lines) LowBin
  pub counted : line ≡ max (line_of_row (all_said lines) LowBin) (line_of_row (all_said lines) TopBin)
  pub is : kind ≡ OutOfRange

-- the line of the i-th row of names
abbrev pub line_of_name : List Said → ℕ → ℕ
line_of_name known i = line_of_row known (get_or name_rows i InitCondFile)

-- the i-th and the j-th row of names are the first two that clash: no earlier row clashes with one behind it, and
-- the i-th with none between them
pub record IsFirstClash (known : List Said) (i j : ℕ) : Type 0 where
  pub ordered : i < j
  pub inside : j < 9
  pub clash : clash_at (word_of_row known) i j ≡ true
  pub before : (k l : ℕ) → k < i → k < l → l < 9 → clash_at (word_of_row known) k l ≡ false
  pub between : (l : ℕ) → i < l → l < j → clash_at (word_of_row known) i l ≡ false

-- the bins are in order, and two names clash; the line is the later of their two
pub record IsClashing (lines : List Line) (line : ℕ) (kind : ParamKind) : Type 0 where
  pub good : AreGood lines (length lines)
  pub complete : missing (all_said lines) ≡ None
  pub ordered : number_of_row (all_said lines) LowBin ≤ number_of_row (all_said lines) TopBin
  pub first_row : ℕ
  pub second_row : ℕ
  pub first : IsFirstClash (all_said lines) first_row second_row
  pub counted : line ≡ max (line_of_name (all_said lines) first_row) (line_of_name (all_said lines) second_row)
  pub is : kind ≡ Clash

-- the first fault of the lines, by its line and kind
abbrev pub IsFirstFault : List Line → ℕ → ParamKind → Type 0
IsFirstFault lines line kind = IsAtLine lines line kind ⊎ (IsMissing lines line kind ⊎ (AreBinsCrossed lines line kind ⊎ IsClashing lines line kind))
