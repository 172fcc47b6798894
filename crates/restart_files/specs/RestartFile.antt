-- What the bytes of a restart file spell, and their first fault.
use Rattle.std.specs.Prelude.{◌≡◌, ◌==◌, ◌⊎◌, ℕ, ◌<◌, ◌≤◌, ◌+◌, ◌-◌, ◌*◌, ◌/◌, ◌^◌, min, Bool, ◌&&◌, ◌||◌, not, nat_le, nat_lt, if◌then◌else◌, List, [], ◌∷◌, length, map, take, drop, Option, Some, None, codes}
use Rattle.std.specs.List.{range_with_len}
use Rattle.std.specs.Option.{option_or}
use Rattle.std.specs.Str.{bytes_eq}
use Rattle.fixed_point.specs.Bytes.{word32_at, word64_at, signed64_at}
use Rattle.nbody_model.specs.Bodies.{BodyData}
use Rattle.nbody_model.specs.Setups.{SetupData}
use Rattle.nbody_model.specs.States.{StateData, low_zeros}
use Rattle.particle_set.specs.declared.row.Row.{Row}
use Rattle.particle_set.specs.declared.row.SetErr.{SetErr}
use Rattle.particle_set.specs.declared.row.SetErr.TheVariants.{TooMany, Repeated, ZeroMass, MassTotal, MomRange, Memory as NoRoom}
use Rattle.particle_set.specs.Rows.{IsSetOf, IsFirstRefusal}
use Rattle.restart_files.specs.declared.head.Head.{Head}
use Rattle.restart_files.specs.declared.errors.RestartErr.{RestartErr}
use Rattle.restart_files.specs.declared.errors.RestartErr.TheVariants.{Tag, Length, Version, Field, EndMark, Bodies as InBodies, Memory}

-- the first and the last eight bytes of a restart file
abbrev pub restart_tag : List ℕ
restart_tag = codes "I4RESTRT"

abbrev pub end_mark : List ℕ
end_mark = codes "I4RESEND"

-- the number in sixteen bytes from a place on, the lowest byte first
unfoldable pub word128_at : List ℕ → ℕ → ℕ
word128_at bytes at = word64_at bytes at + 2 ^ 64 * word64_at bytes (at + 8)

-- the version, and how many bodies there are
abbrev pub version_in : List ℕ → ℕ
version_in bytes = word32_at bytes 8

abbrev pub count_in : List ℕ → ℕ
count_in bytes = word32_at bytes 12

-- the base steps done and the tick
abbrev pub steps_in : List ℕ → ℕ
steps_in bytes = word64_at bytes 16

abbrev pub tick_in : List ℕ → ℕ
tick_in bytes = word64_at bytes 24

-- the time asked for and the two bins, as they stand
abbrev pub time_max_in : List ℕ → ℕ
time_max_in bytes = word64_at bytes 72

abbrev pub low_bin_in : List ℕ → ℕ
low_bin_in bytes = word64_at bytes 80

abbrev pub top_bin_in : List ℕ → ℕ
top_bin_in bytes = word64_at bytes 88

-- the bytes of a body: with its depth in version 2
abbrev pub width_of : ℕ → ℕ
width_of version = if version == 1 then 52 else 56

-- ---- faults

-- there are two versions; a file has at most 1,048,576 bodies, and one of version 2 has some
abbrev pub is_version : ℕ → Bool
is_version version = version == 1 || version == 2

abbrev pub is_count : ℕ → ℕ → Bool
is_count version count = nat_le count 1048576 && not (version == 2 && count == 0)

-- the head: the tag, the version, the number of bodies, the length by these, and the end mark
abbrev pub head_fault : List ℕ → Option RestartErr
head_fault bytes =
    let v = version_in bytes in
    let n = count_in bytes in
    let want = 176 + width_of v * n in
    if not (bytes_eq restart_tag (take 8 bytes)) then Some Tag
    else (if nat_lt (length bytes) 176 then Some (Length 176 (length bytes))
    else (if not (is_version v) then Some (Version v)
    else (if not (is_count v n) then Some (Field 12)
    else (if not (length bytes == want) then Some (Length want (length bytes))
    else (if not (bytes_eq end_mark (drop (length bytes - 8) bytes)) then Some EndMark
    else None)))))

-- what a sound head says of the bytes
pub record HasHead (bytes : List ℕ) (head : Head) : Type 0 where
  pub version : head.version ≡ version_in bytes
  pub count : head.count ≡ count_in bytes
  pub known : (head.version ≡ 1) ⊎ (head.version ≡ 2)
  pub few : head.count ≤ 1048576
  pub some : head.version ≡ 2 → 1 ≤ head.count
  pub whole : length bytes ≡ 176 + width_of head.version * head.count

-- the tick is the end of these base steps, before the time asked for
abbrev pub is_between_steps : ℕ → ℕ → ℕ → ℕ → Bool
is_between_steps steps tick time_max top = tick == steps * 2 ^ top && nat_lt tick time_max

-- the tick is a resting point inside the base step after these
abbrev pub is_inside_step : ℕ → ℕ → ℕ → ℕ → ℕ → Bool
is_inside_step steps tick time_max low top =
    steps == tick / 2 ^ top && (nat_lt (steps * 2 ^ top) time_max && (nat_le low (low_zeros tick) && nat_lt (low_zeros tick) top))

-- the tick goes with the base steps and the settings; a bin above 20 counts as 20 here
abbrev pub is_tick : List ℕ → Bool
is_tick bytes =
    let top = min (top_bin_in bytes) 20 in
    if version_in bytes == 1 then is_between_steps (steps_in bytes) (tick_in bytes) (time_max_in bytes) top
    else is_inside_step (steps_in bytes) (tick_in bytes) (time_max_in bytes) (min (low_bin_in bytes) 20) top

abbrev pub tick_fault : List ℕ → Option RestartErr
tick_fault bytes = if is_tick bytes then None else Some (Field 24)

-- the number at a place lies from one number to another
abbrev pub is_from_to : List ℕ → ℕ → ℕ → ℕ → Bool
is_from_to bytes at low high = nat_le low (word64_at bytes at) && nat_le (word64_at bytes at) high

-- a setting that is out of its range; the top bin isn't below the low bin
abbrev pub rules_fault : List ℕ → Option RestartErr
rules_fault bytes =
    if not (is_from_to bytes 72 0 (2 ^ 40)) then Some (Field 72)
    else (if not (is_from_to bytes 80 1 20) then Some (Field 80)
    else (if not (is_from_to bytes 88 (low_bin_in bytes) 20) then Some (Field 88)
    else (if not (is_from_to bytes 96 0 256) then Some (Field 96)
    else (if not (is_from_to bytes 104 1 65536) then Some (Field 104)
    else (if not (is_from_to bytes 112 0 (2 ^ 32)) then Some (Field 112)
    else (if not (is_from_to bytes 120 0 40) then Some (Field 120)
    else None))))))

-- a softening length that is out of its range
abbrev pub softening_fault : List ℕ → Option RestartErr
softening_fault bytes =
    if not (is_from_to bytes 128 256 (2 ^ 30)) then Some (Field 128)
    else (if not (is_from_to bytes 136 256 (2 ^ 30)) then Some (Field 136)
    else (if not (is_from_to bytes 144 256 (2 ^ 30)) then Some (Field 144)
    else (if not (is_from_to bytes 152 256 (2 ^ 30)) then Some (Field 152)
    else (if not (is_from_to bytes 160 256 (2 ^ 30)) then Some (Field 160)
    else None))))

-- where the body of an index begins
abbrev pub body_place : List ℕ → ℕ → ℕ
body_place bytes i = 168 + width_of (version_in bytes) * i

-- how deep a body may be at most
abbrev pub deepest_in : List ℕ → ℕ
deepest_in bytes = top_bin_in bytes - low_zeros (tick_in bytes)

-- the id isn't above that of the body before; the kind isn't 1 to 5; the depth is too deep
abbrev pub has_wrong_id : List ℕ → ℕ → Bool
has_wrong_id bytes i = not (i == 0) && nat_le (word64_at bytes (body_place bytes i)) (word64_at bytes (body_place bytes (i - 1)))

abbrev pub has_wrong_kind : List ℕ → ℕ → Bool
has_wrong_kind bytes i = let kind = word32_at bytes (body_place bytes i + 8) in not (nat_le 1 kind && nat_le kind 5)

abbrev pub has_wrong_depth : List ℕ → ℕ → Bool
has_wrong_depth bytes i = version_in bytes == 2 && nat_lt (deepest_in bytes) (word32_at bytes (body_place bytes i + 52))

-- the first of these in the body of an index
unfoldable pub body_fault : List ℕ → ℕ → Option RestartErr
body_fault bytes i =
    if has_wrong_id bytes i then Some (Field (body_place bytes i))
    else (if has_wrong_kind bytes i then Some (Field (body_place bytes i + 8))
    else (if has_wrong_depth bytes i then Some (Field (body_place bytes i + 52))
    else None))

-- none of the first n bodies has one
abbrev pub NoFaultBelow : List ℕ → ℕ → Type 0
NoFaultBelow bytes n = (i : ℕ) → i < n → body_fault bytes i ≡ None

-- the first fault that f finds at one of these indices
abbrev pub first_among : (ℕ → Option RestartErr) → List ℕ → Option RestartErr
first_among f [] = None
first_among f (i ∷ is) = option_or (f i) (first_among f is)

abbrev pub bodies_fault : List ℕ → Option RestartErr
bodies_fault bytes = first_among (body_fault bytes) (range_with_len 0 (count_in bytes))

-- the first fault of the bytes, but for what the bodies are together, if there is any
abbrev pub first_fault : List ℕ → Option RestartErr
first_fault bytes =
    option_or (head_fault bytes) (option_or (tick_fault bytes) (option_or (rules_fault bytes) (option_or (softening_fault bytes) (bodies_fault bytes))))

-- ---- what the bytes spell where nothing is wrong with them

-- the settings
abbrev pub setup_in : List ℕ → SetupData
setup_in bytes =
    record {
      time_max = time_max_in bytes;
      low_bin = low_bin_in bytes;
      top_bin = top_bin_in bytes;
      theta = word64_at bytes 96;
      eta = word64_at bytes 104;
      gravity = word64_at bytes 112;
      velocity_shift = word64_at bytes 120;
      soft = 256 ∷ word64_at bytes 128 ∷ word64_at bytes 136 ∷ word64_at bytes 144 ∷ word64_at bytes 152 ∷ word64_at bytes 160 ∷ [];
    }

-- the body of an index, and its depth
unfoldable pub row_in : List ℕ → ℕ → Row
row_in bytes i =
    let at = body_place bytes i in
    record {
      id = word64_at bytes at;
      kind = word32_at bytes (at + 8);
      mass = word32_at bytes (at + 12);
      pos = word32_at bytes (at + 16) ∷ word32_at bytes (at + 20) ∷ word32_at bytes (at + 24) ∷ [];
      mom = signed64_at bytes (at + 28) ∷ signed64_at bytes (at + 36) ∷ signed64_at bytes (at + 44) ∷ [];
    }

abbrev pub depth_in : List ℕ → ℕ → ℕ
depth_in bytes i = word32_at bytes (body_place bytes i + 52)

-- all bodies, and their depths: there are none in version 1
abbrev pub rows_in : List ℕ → List Row
rows_in bytes = map (row_in bytes) (range_with_len 0 (count_in bytes))

abbrev pub depths_in : List ℕ → List ℕ
depths_in bytes = if version_in bytes == 1 then [] else map (depth_in bytes) (range_with_len 0 (count_in bytes))

-- the state that has these bodies
abbrev pub state_in : List ℕ → List BodyData → StateData
state_in bytes B =
    record {
      bodies = B;
      depths = depths_in bytes;
      steps = steps_in bytes;
      tick = tick_in bytes;
      next_snapshot = word64_at bytes 32;
      next_restart = word64_at bytes 40;
      kicks = word64_at bytes 48;
      interactions = word128_at bytes 56;
    }

-- the bytes have no fault, their bodies are a set, and they spell this state and these settings
pub record Spell (bytes : List ℕ) (σ : StateData) (s : SetupData) : Type 0 where
  pub faultless : first_fault bytes ≡ None
  pub bodies : IsSetOf (rows_in bytes) σ.bodies
  pub state : σ ≡ state_in bytes σ.bodies
  pub setup : s ≡ setup_in bytes

-- the bytes have no fault but that their bodies are no set
pub record HasNoSet (bytes : List ℕ) (refusal : SetErr) : Type 0 where
  pub faultless : first_fault bytes ≡ None
  pub refused : IsFirstRefusal (rows_in bytes) refusal

-- the first fault of the bytes; want of memory says nothing of them
abbrev pub IsFirstFault : List ℕ → RestartErr → Type 0
IsFirstFault bytes Tag = first_fault bytes ≡ Some Tag
IsFirstFault bytes (Length want got) = first_fault bytes ≡ Some (Length want got)
IsFirstFault bytes (Version v) = first_fault bytes ≡ Some (Version v)
IsFirstFault bytes (Field at) = first_fault bytes ≡ Some (Field at)
IsFirstFault bytes EndMark = first_fault bytes ≡ Some EndMark
IsFirstFault bytes (InBodies refusal) = HasNoSet bytes refusal
IsFirstFault bytes Memory = Unit {0}

-- a refusal of the bodies, where want of memory stands by itself
abbrev pub refusal_of : SetErr → RestartErr
refusal_of (TooMany n) = InBodies (TooMany n)
refusal_of (Repeated id) = InBodies (Repeated id)
refusal_of (ZeroMass id) = InBodies (ZeroMass id)
refusal_of (MassTotal sum) = InBodies (MassTotal sum)
refusal_of (MomRange id) = InBodies (MomRange id)
refusal_of NoRoom = Memory
