-- What the bytes of a table file spell, and their first fault.
use Rattle.std.specs.Prelude.{◌≡◌, ◌==◌, ℕ, ◌+◌, ◌*◌, ◌/◌, ◌%◌, ◌^◌, ℤ, unsigned_abs, Bool, ◌&&◌, ◌||◌, not, nat_lt, if◌then◌else◌, List, length, map, take, find, Option, Some, None, codes}
use Rattle.std.specs.Int.{w32, cast_signed}
use Rattle.std.specs.List.{range_with_len}
use Rattle.std.specs.Option.{option_map, option_or}
use Rattle.std.specs.Str.{bytes_eq}
use Rattle.fixed_point.specs.declared.V3.{V3}
use Rattle.fixed_point.specs.Bytes.{word32_at}
use Rattle.nbody_model.specs.Tables.{TableData}
use Rattle.ewald_table.specs.declared.errors.TableErr.{TableErr}
use Rattle.ewald_table.specs.declared.errors.TableErr.TheVariants.{Tag, GridRange, Length, PlaneNotZero, Memory}

-- the first eight bytes of a table file
abbrev pub table_tag : List ℕ
table_tag = codes "I4EWALD1"

-- how many steps a grid has from 0 to half the box: 2 to this number
abbrev pub grid_in : List ℕ → ℕ
grid_in bytes = word32_at bytes 8

-- how many points a grid has on an axis, and in all
abbrev pub points_of : ℕ → ℕ
points_of g = 2 ^ g + 1

abbrev pub count_of : ℕ → ℕ
count_of g = points_of g * points_of g * points_of g

-- the signed number whose two's complement stands in four bytes from a place on
abbrev pub signed32_at : List ℕ → ℕ → ℤ
signed32_at bytes at = cast_signed w32 (word32_at bytes at)

-- the entry of an index: three signed numbers, behind a head of sixteen bytes
unfoldable pub entry_in : List ℕ → ℕ → V3
entry_in bytes index =
    record {
      x = signed32_at bytes (16 + 12 * index);
      y = signed32_at bytes (16 + 12 * index + 4);
      z = signed32_at bytes (16 + 12 * index + 8);
    }

-- the table that the bytes spell where nothing is wrong with them
abbrev pub table_in : List ℕ → TableData
table_in bytes = record { g = grid_in bytes; entries = map (entry_in bytes) (range_with_len 0 (count_of (grid_in bytes))) }

-- a number other than 0, at a point that lies this many steps from 0, on an edge plane of the grid
abbrev pub is_off : ℕ → ℕ → ℤ → Bool
is_off g steps number = (steps == 0 || steps == 2 ^ g) && not (unsigned_abs number == 0)

-- an entry that has a number other than 0 on an axis on which its point lies on an edge plane
unfoldable pub leaves_plane : ℕ → ℕ → V3 → Bool
leaves_plane g index v =
    let n = points_of g in
    is_off g (index % n) v.x || (is_off g (index / n % n) v.y || is_off g (index / n / n) v.z)

-- what is wrong before the entries are looked at
abbrev pub head_fault : List ℕ → Option TableErr
head_fault bytes =
    let g = grid_in bytes in
    let want = 16 + 12 * count_of g in
    if not (bytes_eq (take 8 bytes) table_tag) then Some Tag
    else (if nat_lt (length bytes) 16 then Some (Length 16 (length bytes))
    else (if nat_lt 6 g then Some (GridRange g)
    else (if not (length bytes == want) then Some (Length want (length bytes))
    else None)))

-- the first entry that isn't 0 where it lies on an edge plane
abbrev pub plane_fault : List ℕ → Option TableErr
plane_fault bytes =
    option_map (λ index. PlaneNotZero index) (find (λ index. leaves_plane (grid_in bytes) index (entry_in bytes index)) (range_with_len 0 (count_of (grid_in bytes))))

-- the first fault of the bytes, if there is any
abbrev pub first_fault : List ℕ → Option TableErr
first_fault bytes = option_or (head_fault bytes) (plane_fault bytes)

-- P, if the error is one of the bytes and not of memory
abbrev pub IfOfBytes : TableErr → Type 0 → Type 0
IfOfBytes Memory P = Unit {0}
IfOfBytes Tag P = P
IfOfBytes (GridRange g) P = P
IfOfBytes (Length want got) P = P
IfOfBytes (PlaneNotZero index) P = P

-- the first fault of the bytes; want of memory says nothing of them
abbrev pub IsFirstFault : List ℕ → TableErr → Type 0
IsFirstFault bytes e = IfOfBytes e (first_fault bytes ≡ Some e)

-- the bytes have no fault, and spell this table
pub record Spell (bytes : List ℕ) (table : TableData) : Type 0 where
  pub faultless : first_fault bytes ≡ None
  pub is : table ≡ table_in bytes
