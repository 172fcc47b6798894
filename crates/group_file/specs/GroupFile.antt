-- The bytes of a catalogue file, what bytes spell, and their first fault.
use Rattle.std.specs.Prelude.{◌≡◌, ◌==◌, ℕ, zero, suc, ◌+◌, ◌-◌, ◌*◌, ◌^◌, ◌<◌, Bool, false, not, nat_le, nat_lt, min, if◌then◌else◌, List, [], ◌∷◌, ◌++◌, length, take, map, filter, fold, Option, Some, None, codes}
use Rattle.std.specs.List.{All, flat_map, range_with_len}
use Rattle.std.specs.Option.{option_map, option_or}
use Rattle.std.specs.Str.{bytes_eq}
use Rattle.fixed_point.specs.Bytes.{bytes32, bytes64, word32_at, word64_at}
use Rattle.group_file.specs.Catalogues.{GroupData, IsGood, FitsWords, all_ids, times}
use Rattle.group_file.specs.declared.errors.GroupErr.{GroupErr}
use Rattle.group_file.specs.declared.errors.GroupErr.TheVariants.{Tag, Truncated, Field, Rest, Repeated, Memory}

-- ---- bytes

-- the first eight bytes of a catalogue file
abbrev pub group_tag : List ℕ
group_tag = codes "I4GROUPS"

-- a group: label, mass, number of ids and the ids, each in eight bytes
abbrev pub group_bytes : GroupData → List ℕ
group_bytes g = bytes64 g.label ++ bytes64 g.mass ++ bytes64 (length g.ids) ++ flat_map bytes64 g.ids

-- a catalogue: the tag, the number of groups, 0, and the groups
unfoldable pub catalogue_text : List GroupData → List ℕ
catalogue_text C = (group_tag ++ bytes32 (length C) ++ bytes32 0) ++ flat_map group_bytes C

-- ---- what stands in bytes

-- how many groups the head says
abbrev pub count_in : List ℕ → ℕ
count_in bytes = word32_at bytes 8

-- of the group that begins at a place: the label, the number of ids, an id, and the first ids
abbrev pub label_at : List ℕ → ℕ → ℕ
label_at bytes p = word64_at bytes p

abbrev pub number_at : List ℕ → ℕ → ℕ
number_at bytes p = word64_at bytes (p + 16)

abbrev pub id_at : List ℕ → ℕ → ℕ → ℕ
id_at bytes p k = word64_at bytes (p + 24 + 8 * k)

abbrev pub ids_at : List ℕ → ℕ → ℕ → List ℕ
ids_at bytes p n = map (id_at bytes p) (range_with_len 0 n)

-- the group that begins at a place
unfoldable pub group_at : List ℕ → ℕ → GroupData
group_at bytes p = record { label = label_at bytes p; mass = word64_at bytes (p + 8); ids = ids_at bytes p (number_at bytes p) }

-- where the group of an index begins
abbrev pub start : List ℕ → ℕ → ℕ
start bytes zero = 16
start bytes (suc k) = start bytes k + 24 + 8 * number_at bytes (start bytes k)

-- the first groups in the bytes, and all of them
abbrev pub first_groups : List ℕ → ℕ → List GroupData
first_groups bytes n = map (λ k. group_at bytes (start bytes k)) (range_with_len 0 n)

abbrev pub groups_in : List ℕ → List GroupData
groups_in bytes = first_groups bytes (count_in bytes)

-- ---- faults, in this order

-- the first of the faults of the numbers below n
abbrev pub first_of : (ℕ → Option GroupErr) → ℕ → Option GroupErr
first_of fault zero = None
first_of fault (suc n) = option_or (first_of fault n) (fault n)

-- the tag is missing, or the head isn't whole
abbrev pub head_fault : List ℕ → Option GroupErr
head_fault bytes =
    if not (bytes_eq (take 8 bytes) group_tag) then Some Tag
    else (if nat_lt (length bytes) 16 then Some (Truncated 8)
    else None)

-- an id isn't above the one before, or as the first isn't the label
abbrev pub is_wrong_id : List ℕ → ℕ → ℕ → Bool
is_wrong_id bytes p k = if k == 0 then not (id_at bytes p 0 == label_at bytes p) else nat_le (id_at bytes p k) (id_at bytes p (k - 1))

abbrev pub id_fault : List ℕ → ℕ → ℕ → Option GroupErr
id_fault bytes p k = if is_wrong_id bytes p k then Some (Field (p + 24 + 8 * k)) else None

-- a label isn't above the one before, if there is one
abbrev pub is_low : Option ℕ → ℕ → Bool
is_low None label = false
is_low (Some before) label = nat_le label before

-- the first fault of the group that begins at a place, behind a label
unfoldable pub group_fault : List ℕ → Option ℕ → ℕ → Option GroupErr
group_fault bytes before p =
    let number = number_at bytes p in
    if nat_lt (length bytes - p) 24 then Some (Truncated p)
    else (if is_low before (label_at bytes p) then Some (Field p)
    else (if number == 0 then Some (Field (p + 16))
    else (if nat_lt 1048576 number then Some (Field (p + 16))
    else (if nat_lt (length bytes - (p + 24)) (8 * number) then Some (Truncated (p + 24))
    else first_of (id_fault bytes p) number))))

-- the label before the group of an index, if it isn't the first group
abbrev pub label_before : List ℕ → ℕ → Option ℕ
label_before bytes zero = None
label_before bytes (suc k) = Some (label_at bytes (start bytes k))

abbrev pub fault_of_group : List ℕ → ℕ → Option GroupErr
fault_of_group bytes k = group_fault bytes (label_before bytes k) (start bytes k)

-- the first fault of the groups
abbrev pub groups_fault : List ℕ → Option GroupErr
groups_fault bytes = first_of (fault_of_group bytes) (count_in bytes)

-- bytes follow the last group
abbrev pub rest_fault : List ℕ → Option GroupErr
rest_fault bytes = let end = start bytes (count_in bytes) in if nat_lt end (length bytes) then Some (Rest end) else None

-- the least of some numbers
abbrev pub least_of : List ℕ → Option ℕ
least_of [] = None
least_of (x ∷ xs) = Some (fold min x xs)

-- the least id that stands in two groups
abbrev pub repeated_in : List GroupData → Option ℕ
repeated_in C = least_of (filter (λ id. nat_lt 1 (times id (all_ids C))) (all_ids C))

abbrev pub repeated_fault : List GroupData → Option GroupErr
repeated_fault C = option_map (λ id. Repeated id) (repeated_in C)

-- the first fault of the bytes, if there is any
abbrev pub first_fault : List ℕ → Option GroupErr
first_fault bytes = option_or (head_fault bytes) (option_or (option_or (groups_fault bytes) (rest_fault bytes)) (repeated_fault (groups_in bytes)))

-- ---- readings

-- P, if the error is one of the bytes and not of memory
abbrev pub IfOfBytes : GroupErr → Type 0 → Type 0
IfOfBytes Memory P = Unit {0}
IfOfBytes Tag P = P
IfOfBytes (Truncated at) P = P
IfOfBytes (Field at) P = P
IfOfBytes (Rest at) P = P
IfOfBytes (Repeated id) P = P

-- the first fault of the bytes; want of memory says nothing of them
abbrev pub IsFirstFault : List ℕ → GroupErr → Type 0
IsFirstFault bytes e = IfOfBytes e (first_fault bytes ≡ Some e)

-- the bytes have no fault, and spell this catalogue
pub record Spell (bytes : List ℕ) (C : List GroupData) : Type 0 where
  pub faultless : first_fault bytes ≡ None
  pub is : C ≡ groups_in bytes

-- the bytes of a catalogue of fewer than 2^32 groups spell it
abbrev pub ReadsWritten : Type 0
ReadsWritten = (C : List GroupData) → length C < 2 ^ 32 → IsGood C → All FitsWords C → Spell (catalogue_text C) C
