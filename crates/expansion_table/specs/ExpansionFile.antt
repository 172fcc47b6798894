-- What the bytes of an expansion file spell, and their first fault.
use Rattle.std.specs.Prelude.{◌≡◌, ◌==◌, ℕ, ◌+◌, ◌-◌, ◌*◌, ◌^◌, Bool, ◌&&◌, not, nat_le, nat_lt, if◌then◌else◌, List, length, map, take, find, Option, Some, None, codes}
use Rattle.std.specs.List.{range_with_len}
use Rattle.std.specs.Option.{option_map, option_or}
use Rattle.std.specs.Str.{bytes_eq}
use Rattle.fixed_point.specs.Bytes.{word32_at, word64_at}
use Rattle.nbody_model.specs.Tables.{ExpansionEntry, ExpansionData}
use Rattle.expansion_table.specs.declared.errors.ExpErr.{ExpErr}
use Rattle.expansion_table.specs.declared.errors.ExpErr.TheVariants.{Tag, Length, Spacing, Entry, Short, Memory}

-- the first eight bytes of an expansion file
abbrev pub expansion_tag : List ℕ
expansion_tag = codes "I4EXPAN1"

-- the entries are 2 to this number of ticks apart, and there are so many of them
abbrev pub spacing_in : List ℕ → ℕ
spacing_in bytes = word32_at bytes 8

abbrev pub count_in : List ℕ → ℕ
count_in bytes = word32_at bytes 12

-- the entry of an index: the sums for kicks and for drifts, behind a head of sixteen bytes
unfoldable pub entry_in : List ℕ → ℕ → ExpansionEntry
entry_in bytes index = record { kick = word64_at bytes (16 + 16 * index); drift = word64_at bytes (16 + 16 * index + 8) }

-- the table that the bytes spell where nothing is wrong with them
abbrev pub table_in : List ℕ → ExpansionData
table_in bytes = record { s = spacing_in bytes; entries = map (entry_in bytes) (range_with_len 0 (count_in bytes)) }

-- from one sum to the next it goes up, by at most the ticks between
abbrev pub goes_up : ℕ → ℕ → ℕ → Bool
goes_up ticks a b = nat_le a b && nat_le b (a + ticks)

-- an entry may stand at its index: the first is 0, and from each to the next both sums go up
unfoldable pub may_stand : List ℕ → ℕ → Bool
may_stand bytes index =
    let after = entry_in bytes index in
    let before = entry_in bytes (index - 1) in
    let ticks = 2 ^ spacing_in bytes in
    if index == 0 then after.kick == 0 && after.drift == 0 else goes_up ticks before.kick after.kick && goes_up ticks before.drift after.drift

-- what is wrong before the entries are looked at
abbrev pub head_fault : List ℕ → Option ExpErr
head_fault bytes =
    let want = 16 + 16 * count_in bytes in
    if not (bytes_eq (take 8 bytes) expansion_tag) then Some Tag
    else (if nat_lt (length bytes) 16 then Some (Length 16 (length bytes))
    else (if nat_lt 40 (spacing_in bytes) then Some (Spacing (spacing_in bytes))
    else (if not (length bytes == want) then Some (Length want (length bytes))
    else None)))

-- there is no entry, or the first that may not stand at its index
abbrev pub entry_fault : List ℕ → Option ExpErr
entry_fault bytes =
    if count_in bytes == 0 then Some (Entry 0)
    else option_map (λ index. Entry index) (find (λ index. not (may_stand bytes index)) (range_with_len 0 (count_in bytes)))

-- the last entry stands at this tick, which is before the last one of the run
abbrev pub short_fault : List ℕ → ℕ → Option ExpErr
short_fault bytes last = let got = (count_in bytes - 1) * 2 ^ spacing_in bytes in if nat_lt got last then Some (Short last got) else None

-- the first fault of the bytes, for a run up to a last tick, if there is any
abbrev pub first_fault : List ℕ → ℕ → Option ExpErr
first_fault bytes last = option_or (head_fault bytes) (option_or (entry_fault bytes) (short_fault bytes last))

-- P, if the error is one of the bytes and not of memory
abbrev pub IfOfBytes : ExpErr → Type 0 → Type 0
IfOfBytes Memory P = Unit {0}
IfOfBytes Tag P = P
IfOfBytes (Length want got) P = P
IfOfBytes (Spacing s) P = P
IfOfBytes (Entry index) P = P
IfOfBytes (Short want got) P = P

-- the first fault of the bytes; want of memory says nothing of them
abbrev pub IsFirstFault : List ℕ → ℕ → ExpErr → Type 0
IsFirstFault bytes last e = IfOfBytes e (first_fault bytes last ≡ Some e)

-- the bytes have no fault, and spell this table
pub record Spell (bytes : List ℕ) (last : ℕ) (table : ExpansionData) : Type 0 where
  pub faultless : first_fault bytes last ≡ None
  pub is : table ≡ table_in bytes
