-- The times of an output list.
use Rattle.std.specs.Prelude.{◌≡◌, ℕ, ◌+◌, ◌≤◌, ◌<◌, Bool, true, false, ◌&&◌, nat_le, nat_lt, if◌then◌else◌, List, [], ◌∷◌, length, get_or, Contains, Option, None, Some, Result, Ok, Err, ◌↔◌}
use Rattle.std.specs.List.{list_any, filter_map}
use Rattle.std.specs.List.Sorted.{IsStrictlyIncreasing}
use Rattle.std.specs.Result.{result_ok}
use Rattle.text_words.specs.Comments.{Line, begins_comment}
use Rattle.text_words.specs.Numbers.{whole_number}
use Rattle.text_words.specs.declared.number.NumErr.{NumErr}
use Rattle.output_schedule.specs.declared.errors.OutputErr.{OutputErr}
use Rattle.output_schedule.specs.declared.errors.OutputErr.TheVariants.{NotNumber, TooMany, Memory}

-- the number that a line's first word spells, or why it is none; nothing where the line is passed over
abbrev pub number_in : Line → Option (Result ℕ NumErr)
number_in [] = None
number_in (word ∷ words) = if begins_comment word then None else Some (whole_number word)

abbrev pub is_fault : Option (Result ℕ NumErr) → Bool
is_fault None = false
is_fault (Some (Ok n)) = false
is_fault (Some (Err e)) = true

-- the line isn't passed over, and its first word is no number
abbrev pub is_bad : Line → Bool
is_bad line = is_fault (number_in line)

abbrev pub number_if_any : Option (Result ℕ NumErr) → Option ℕ
number_if_any None = None
number_if_any (Some r) = result_ok r

-- the times of the lines, in their order, in ticks
abbrev pub times_in : List Line → List ℕ
times_in lines = filter_map (λ line. number_if_any (number_in line)) lines

-- none of the first n lines is bad
abbrev pub AreGood : List Line → ℕ → Type 0
AreGood lines n = (k : ℕ) → k < n → is_bad (get_or lines k []) ≡ false

-- The lines spell this list: all give times, there are at most 65,536 of them, and the list has exactly these,
-- ascending and each once.
pub record Spell (lines : List Line) (outputs : List ℕ) : Type 0 where
  pub good : AreGood lines (length lines)
  pub few : length (times_in lines) ≤ 65536
  pub ascending : IsStrictlyIncreasing outputs
  pub same : (time : ℕ) → Contains outputs time ↔ Contains (times_in lines) time

-- the first bad line, by its number from 1
pub record IsFirstBad (lines : List Line) (number : ℕ) : Type 0 where
  pub index : ℕ
  pub inside : index < length lines
  pub counted : number ≡ index + 1
  pub before : AreGood lines index
  pub bad : is_bad (get_or lines index []) ≡ true

-- no line is bad, and there are this many times, which is more than 65,536
pub record AreTooMany (lines : List Line) (count : ℕ) : Type 0 where
  pub good : AreGood lines (length lines)
  pub counted : count ≡ length (times_in lines)
  pub many : 65536 < count

-- the first fault of the lines; want of memory says nothing of them
abbrev pub IsFirstFault : List Line → OutputErr → Type 0
IsFirstFault lines (NotNumber number) = IsFirstBad lines number
IsFirstFault lines (TooMany count) = AreTooMany lines count
IsFirstFault lines Memory = Unit {0}

-- some time of the list is at least `from` and below `to`
abbrev pub is_due : List ℕ → ℕ → ℕ → Bool
is_due outputs from to = list_any (λ time. nat_le from time && nat_lt time to) outputs
