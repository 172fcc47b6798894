-- What the words ask for.
use Rattle.std.specs.Prelude.{ℕ, ◌^◌, ◌-◌, Bool, ◌&&◌, nat_le, if◌then◌else◌, List, [], ◌∷◌, length, codes, Option, Some, None, Result, Ok, Err}
use Rattle.std.specs.Str.{bytes_eq}
use Rattle.std.specs.List.{list_all}
use Rattle.store_io.specs.Names.{is_name, is_visible}
use Rattle.text_words.specs.declared.number.NumErr.{NumErr}
use Rattle.text_words.specs.Numbers.{whole_number}

-- nothing that is known; a run by a parameter file on so many ranks; a run that goes on from a restart file besides; what
-- a run would read; what a snapshot holds; so many bodies that are drawn from a seed, in files of a name; the groups of a
-- snapshot, by the length of a link and the least number of members, in a file; or the links of two catalogues, in a file
pub data Asked : Type 0 where
  nothing : Asked
  run : List ℕ → ℕ → Asked
  resume : List ℕ → List ℕ → ℕ → Asked
  check : List ℕ → Asked
  show : List ℕ → Asked
  make : ℕ → ℕ → List ℕ → Asked
  groups : List ℕ → ℕ → ℕ → List ℕ → Asked
  links : List ℕ → List ℕ → List ℕ → Asked

-- 1 to `most` visible bytes
abbrev pub is_visible_name : ℕ → List ℕ → Bool
is_visible_name most word = nat_le 1 (length word) && (nat_le (length word) most && list_all is_visible word)

-- a number in a range
abbrev pub if_between : ℕ → ℕ → Result ℕ NumErr → Option ℕ
if_between least most (Ok n) = if nat_le least n && nat_le n most then Some n else None
if_between least most (Err e) = None

abbrev pub number_in : ℕ → ℕ → List ℕ → Option ℕ
number_in least most word = if_between least most (whole_number word)

abbrev pub run_on : List ℕ → Option ℕ → Asked
run_on param (Some ranks) = run param ranks
run_on param None = nothing

abbrev pub resume_on : List ℕ → List ℕ → Option ℕ → Asked
resume_on param restart (Some ranks) = resume param restart ranks
resume_on param restart None = nothing

-- a name to which `_restart` or the like can still be put
abbrev pub make_as : Option ℕ → Option ℕ → List ℕ → Asked
make_as (Some count) (Some seed) name = if is_visible_name 180 name then make count seed name else nothing
make_as (Some count) None name = nothing
make_as None seed name = nothing

-- a restart file or a snapshot: a base of 200 bytes, `_` and 20 digits
abbrev pub is_numbered_name : List ℕ → Bool
is_numbered_name word = is_visible_name 221 word

abbrev pub groups_as : List ℕ → Option ℕ → Option ℕ → List ℕ → Asked
groups_as snapshot (Some reach) (Some least) name =
    if is_numbered_name snapshot then (if is_name name then groups snapshot reach least name else nothing) else nothing
groups_as snapshot (Some reach) None name = nothing
groups_as snapshot None least name = nothing

abbrev pub links_as : List ℕ → List ℕ → List ℕ → Asked
links_as first second name =
    if is_name first then (if is_name second then (if is_name name then links first second name else nothing) else nothing) else nothing

abbrev pub asked_of_two : List ℕ → List ℕ → Asked
asked_of_two word name =
    if bytes_eq word (codes "check") then (if is_name name then check name else nothing)
    else (if bytes_eq word (codes "show") then (if is_numbered_name name then show name else nothing) else nothing)

abbrev pub asked_of_three : List ℕ → List ℕ → List ℕ → Asked
asked_of_three word param ranks =
    if bytes_eq word (codes "run") then (if is_name param then run_on param (number_in 1 256 ranks) else nothing) else nothing

abbrev pub asked_of_four : List ℕ → List ℕ → List ℕ → List ℕ → Asked
asked_of_four word a b c =
    if bytes_eq word (codes "resume") then (if is_name a && is_numbered_name b then resume_on a b (number_in 1 256 c) else nothing)
    else (if bytes_eq word (codes "make") then make_as (number_in 0 1048576 a) (number_in 0 (2 ^ 64 - 1) b) c
    else (if bytes_eq word (codes "links") then links_as a b c else nothing))

abbrev pub asked_of_five : List ℕ → List ℕ → List ℕ → List ℕ → List ℕ → Asked
asked_of_five word a b c d =
    if bytes_eq word (codes "groups") then groups_as a (number_in 0 1073741824 b) (number_in 1 1048576 c) d else nothing

-- what the words ask for
abbrev pub asked : List (List ℕ) → Asked
asked (word ∷ a ∷ []) = asked_of_two word a
asked (word ∷ a ∷ b ∷ []) = asked_of_three word a b
asked (word ∷ a ∷ b ∷ c ∷ []) = asked_of_four word a b c
asked (word ∷ a ∷ b ∷ c ∷ d ∷ []) = asked_of_five word a b c d
asked words = nothing
