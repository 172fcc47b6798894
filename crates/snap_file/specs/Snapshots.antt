-- What the bytes of a snapshot spell, and their first fault.
use Rattle.std.specs.Prelude.{◌≡◌, ◌⊎◌, ◌<◌, ◌+◌, ◌*◌, ◌==◌, ℕ, Bool, true, false, ◌&&◌, ◌||◌, not, nat_lt, if◌then◌else◌, List, [], ◌∷◌, length, map, sum, take, find, slice_index, slice_index_or, slice_range, Option, Some, None, is_some}
use Rattle.std.specs.Option.{option_map}
use Rattle.std.specs.List.{range_with_len}
use Rattle.std.specs.Str.{bytes_eq}
use Rattle.fixed_point.specs.Bytes.{word32_at, word64_at, signed64_at}
use Rattle.snapshot_blocks.specs.declared.block.Block.{Block}
use Rattle.snapshot_blocks.specs.declared.block.BlockErr.{BlockErr}
use Rattle.snapshot_blocks.specs.declared.block.BlockKind.{BlockKind}
use Rattle.snapshot_blocks.specs.declared.block.BlockKind.TheVariants.{Truncated, NameFrame, FrameDiffers, SkipDiffers, Memory as NoMemory}
use Rattle.snapshot_blocks.specs.Blocks.{Spell, IsFirstFault}
use Rattle.particle_set.specs.declared.row.Row.{Row}
use Rattle.particle_set.specs.declared.row.SetErr.{SetErr}
use Rattle.particle_set.specs.declared.row.SetErr.TheVariants.{TooMany, Repeated, ZeroMass, MassTotal, MomRange, Memory as NoRoom}
use Rattle.particle_set.specs.Rows.{IsSetOf, IsFirstRefusal}
use Rattle.nbody_model.specs.Bodies.{BodyData}
use Rattle.nbody_model.specs.SnapshotText.{head_name, position_name, momentum_name, id_name, mass_name, snapshot_tag}
use Rattle.snap_file.specs.declared.head.Head.{Head}
use Rattle.snap_file.specs.declared.errors.SnapErr.{SnapErr}
use Rattle.snap_file.specs.declared.errors.SnapErr.TheVariants.{Block as InFrames, RepeatedBlock, MissingBlock, HeadLength, HeadTag, Gas, BlockLength, Bodies as InBodies, Memory}
use Rattle.snap_file.specs.Kinds.{kind_at}

-- the five names that are known
abbrev pub is_known : List ℕ → Bool
is_known name =
    bytes_eq name head_name || (bytes_eq name position_name || (bytes_eq name momentum_name || (bytes_eq name id_name || bytes_eq name mass_name)))

-- the first block of a name
abbrev pub block_named : List ℕ → List Block → Option Block
block_named name blocks = find (λ b. bytes_eq b.name name) blocks

-- its contents
abbrev pub contents_named : List ℕ → List ℕ → List Block → Option (List ℕ)
contents_named bytes name blocks = option_map (λ b. slice_range bytes b.at (b.at + b.len)) (block_named name blocks)

-- a block of a known name after earlier blocks, one of which has that name
abbrev pub repeats : List Block → Block → Bool
repeats earlier b = is_known b.name && is_some (block_named b.name earlier)

-- no block below this place has a known name that stood before
pub record NoRepeatBelow (blocks : List Block) (i : ℕ) : Type 0 where
  pub clean : (k : ℕ) (d : Block) → k < i → repeats (take k blocks) (slice_index_or blocks k d) ≡ false

-- the first block with a known name that stood before has this name
pub record IsFirstRepeat (blocks : List Block) (name : List ℕ) : Type 0 where
  pub place : ℕ
  pub block : Block
  pub within : place < length blocks
  pub at : slice_index_or blocks place block ≡ block
  pub named : block.name ≡ name
  pub repeated : repeats (take place blocks) block ≡ true
  pub first : NoRepeatBelow blocks place

-- the head in 256 bytes, and what may be wrong with them
abbrev pub head_in : List ℕ → Head
head_in text =
    record {
      counts = word32_at text 8 ∷ word32_at text 12 ∷ word32_at text 16 ∷ word32_at text 20 ∷ word32_at text 24 ∷ word32_at text 28 ∷ [];
      tick = word64_at text 32;
      number = word32_at text 40;
    }

abbrev pub head_fault : List ℕ → Option SnapErr
head_fault text =
    if not (length text == 256) then Some (HeadLength (length text))
    else (if not (bytes_eq (slice_range text 0 8) snapshot_tag) then Some HeadTag else None)

-- the columns of a snapshot
pub record ColumnTexts : Type 0 where
  pub positions : List ℕ
  pub momenta : List ℕ
  pub ids : List ℕ
  pub masses : List ℕ

-- the first column that isn't there
abbrev pub missing_column : List Block → Option SnapErr
missing_column blocks =
    if not (is_some (block_named position_name blocks)) then Some (MissingBlock position_name)
    else (if not (is_some (block_named momentum_name blocks)) then Some (MissingBlock momentum_name)
    else (if not (is_some (block_named id_name blocks)) then Some (MissingBlock id_name)
    else (if not (is_some (block_named mass_name blocks)) then Some (MissingBlock mass_name)
    else None)))

-- the columns of these blocks
pub record AreColumns (bytes : List ℕ) (blocks : List Block) (columns : ColumnTexts) : Type 0 where
  pub positions : contents_named bytes position_name blocks ≡ Some columns.positions
  pub momenta : contents_named bytes momentum_name blocks ≡ Some columns.momenta
  pub ids : contents_named bytes id_name blocks ≡ Some columns.ids
  pub masses : contents_named bytes mass_name blocks ≡ Some columns.masses

-- the columns have the lengths that n bodies have
pub record HaveLengths (n : ℕ) (columns : ColumnTexts) : Type 0 where
  pub positions : length columns.positions ≡ 12 * n
  pub momenta : length columns.momenta ≡ 24 * n
  pub ids : length columns.ids ≡ 8 * n
  pub masses : length columns.masses ≡ 4 * n

-- what may be wrong with the counts, and with the lengths of the columns by them
abbrev pub counts_fault : List ℕ → Option SnapErr
counts_fault counts =
    if not (slice_index counts 0 == 0) then Some (Gas (slice_index counts 0))
    else (if nat_lt 1048576 (sum counts) then Some (InBodies (TooMany (sum counts)))
    else None)

abbrev pub lengths_fault : ℕ → ColumnTexts → Option SnapErr
lengths_fault n columns =
    if not (length columns.positions == 12 * n) then Some (BlockLength position_name (12 * n) (length columns.positions))
    else (if not (length columns.momenta == 24 * n) then Some (BlockLength momentum_name (24 * n) (length columns.momenta))
    else (if not (length columns.ids == 8 * n) then Some (BlockLength id_name (8 * n) (length columns.ids))
    else (if not (length columns.masses == 4 * n) then Some (BlockLength mass_name (4 * n) (length columns.masses))
    else None)))

-- the row of the body at a place, and all rows
unfoldable pub row_in : List ℕ → ColumnTexts → ℕ → Row
row_in counts columns i =
    record {
      id = word64_at columns.ids (8 * i);
      kind = kind_at counts i;
      mass = word32_at columns.masses (4 * i);
      pos = word32_at columns.positions (12 * i) ∷ word32_at columns.positions (12 * i + 4) ∷ word32_at columns.positions (12 * i + 8) ∷ [];
      mom = signed64_at columns.momenta (24 * i) ∷ signed64_at columns.momenta (24 * i + 8) ∷ signed64_at columns.momenta (24 * i + 16) ∷ [];
    }

abbrev pub rows_in : List ℕ → ColumnTexts → List Row
rows_in counts columns = map (row_in counts columns) (range_with_len 0 (sum counts))

-- the bytes are blocks, none of a known name twice
pub record AreBlocks (bytes : List ℕ) (blocks : List Block) : Type 0 where
  pub spelled : Spell bytes blocks
  pub once : NoRepeatBelow blocks (length blocks)

-- the bytes are blocks with a sound head
pub record HasHead (bytes : List ℕ) (blocks : List Block) (head : Head) : Type 0 where
  pub blocks_are : AreBlocks bytes blocks
  pub text : List ℕ
  pub found : contents_named bytes head_name blocks ≡ Some text
  pub sound : head_fault text ≡ None
  pub is : head ≡ head_in text

-- the bytes have this head
pub record SpellsHead (bytes : List ℕ) (head : Head) : Type 0 where
  pub blocks : List Block
  pub has : HasHead bytes blocks head

-- besides, they have all columns, with counts that a set may have, and of the lengths by them
pub record HasColumns (bytes : List ℕ) (blocks : List Block) (head : Head) (columns : ColumnTexts) : Type 0 where
  pub has_head : HasHead bytes blocks head
  pub found : AreColumns bytes blocks columns
  pub counts_sound : counts_fault head.counts ≡ None
  pub lengths_sound : lengths_fault (sum head.counts) columns ≡ None

-- the bytes are a snapshot of these bodies
pub record SpellsSnapshot (bytes : List ℕ) (B : List BodyData) : Type 0 where
  pub blocks : List Block
  pub head : Head
  pub columns : ColumnTexts
  pub has : HasColumns bytes blocks head columns
  pub bodies : IsSetOf (rows_in head.counts columns) B

-- ---- the first fault, in the order of the checks

-- the frames, or a block that repeats a name
pub record RepeatsBlock (bytes : List ℕ) (name : List ℕ) : Type 0 where
  pub blocks : List Block
  pub spelled : Spell bytes blocks
  pub first : IsFirstRepeat blocks name

-- there is no head
pub record LacksHead (bytes : List ℕ) (name : List ℕ) : Type 0 where
  pub blocks : List Block
  pub blocks_are : AreBlocks bytes blocks
  pub missing : contents_named bytes head_name blocks ≡ None
  pub named : name ≡ head_name

-- there is a head with this fault
pub record HasHeadFault (bytes : List ℕ) (err : SnapErr) : Type 0 where
  pub blocks : List Block
  pub blocks_are : AreBlocks bytes blocks
  pub text : List ℕ
  pub found : contents_named bytes head_name blocks ≡ Some text
  pub fault : head_fault text ≡ Some err

-- the head is sound, and a column is missing
pub record LacksColumn (bytes : List ℕ) (err : SnapErr) : Type 0 where
  pub blocks : List Block
  pub head : Head
  pub has : HasHead bytes blocks head
  pub fault : missing_column blocks ≡ Some err

-- head and columns are there, and the counts are wrong
pub record HasCountsFault (bytes : List ℕ) (err : SnapErr) : Type 0 where
  pub blocks : List Block
  pub head : Head
  pub columns : ColumnTexts
  pub has : HasHead bytes blocks head
  pub found : AreColumns bytes blocks columns
  pub fault : counts_fault head.counts ≡ Some err

-- the counts are sound, and a column's length is wrong
pub record HasLengthFault (bytes : List ℕ) (err : SnapErr) : Type 0 where
  pub blocks : List Block
  pub head : Head
  pub columns : ColumnTexts
  pub has : HasHead bytes blocks head
  pub found : AreColumns bytes blocks columns
  pub counts_sound : counts_fault head.counts ≡ None
  pub fault : lengths_fault (sum head.counts) columns ≡ Some err

-- all is sound but the bodies, which are no set
pub record HasNoSet (bytes : List ℕ) (refusal : SetErr) : Type 0 where
  pub blocks : List Block
  pub head : Head
  pub columns : ColumnTexts
  pub has : HasColumns bytes blocks head columns
  pub refused : IsFirstRefusal (rows_in head.counts columns) refusal

-- the first fault of bytes of which the head alone is read
abbrev pub IsHeadFault : List ℕ → SnapErr → Type 0
IsHeadFault bytes (InFrames e) = IsFirstFault bytes e
IsHeadFault bytes (RepeatedBlock name) = RepeatsBlock bytes name
IsHeadFault bytes (MissingBlock name) = LacksHead bytes name
IsHeadFault bytes (HeadLength got) = HasHeadFault bytes (HeadLength got)
IsHeadFault bytes HeadTag = HasHeadFault bytes HeadTag
IsHeadFault bytes (Gas count) = ⊥
IsHeadFault bytes (BlockLength name want got) = ⊥
IsHeadFault bytes (InBodies e) = ⊥
IsHeadFault bytes Memory = Unit {0}

-- the first fault of a snapshot's bytes
abbrev pub IsSnapshotFault : List ℕ → SnapErr → Type 0
IsSnapshotFault bytes (InFrames e) = IsFirstFault bytes e
IsSnapshotFault bytes (RepeatedBlock name) = RepeatsBlock bytes name
IsSnapshotFault bytes (MissingBlock name) = LacksHead bytes name ⊎ LacksColumn bytes (MissingBlock name)
IsSnapshotFault bytes (HeadLength got) = HasHeadFault bytes (HeadLength got)
IsSnapshotFault bytes HeadTag = HasHeadFault bytes HeadTag
IsSnapshotFault bytes (Gas count) = HasCountsFault bytes (Gas count)
IsSnapshotFault bytes (BlockLength name want got) = HasLengthFault bytes (BlockLength name want got)
IsSnapshotFault bytes (InBodies e) = HasCountsFault bytes (InBodies e) ⊎ HasNoSet bytes e
IsSnapshotFault bytes Memory = Unit {0}

-- the first fault of the frames, or a block that repeats a name
abbrev pub IsBlocksFault : List ℕ → SnapErr → Type 0
IsBlocksFault bytes (InFrames e) = IsFirstFault bytes e
IsBlocksFault bytes (RepeatedBlock name) = RepeatsBlock bytes name
IsBlocksFault bytes (MissingBlock name) = ⊥
IsBlocksFault bytes (HeadLength got) = ⊥
IsBlocksFault bytes HeadTag = ⊥
IsBlocksFault bytes (Gas count) = ⊥
IsBlocksFault bytes (BlockLength name want got) = ⊥
IsBlocksFault bytes (InBodies e) = ⊥
IsBlocksFault bytes Memory = Unit {0}

-- a fault of the frames, where want of memory stands by itself
abbrev pub framing_of_kind : BlockKind → BlockErr → SnapErr
framing_of_kind NoMemory e = Memory
framing_of_kind Truncated e = InFrames e
framing_of_kind NameFrame e = InFrames e
framing_of_kind (FrameDiffers first last) e = InFrames e
framing_of_kind SkipDiffers e = InFrames e

abbrev pub framing_of : BlockErr → SnapErr
framing_of e = framing_of_kind e.kind e

-- rows that the bytes have
pub record HasRows (bytes : List ℕ) (rows : List Row) : Type 0 where
  pub blocks : List Block
  pub head : Head
  pub columns : ColumnTexts
  pub has : HasColumns bytes blocks head columns
  pub are : rows ≡ rows_in head.counts columns

-- a refusal of the bodies, where want of memory stands by itself
abbrev pub refusal_of : SetErr → SnapErr
refusal_of (TooMany n) = InBodies (TooMany n)
refusal_of (Repeated id) = InBodies (Repeated id)
refusal_of (ZeroMass id) = InBodies (ZeroMass id)
refusal_of (MassTotal sum) = InBodies (MassTotal sum)
refusal_of (MomRange id) = InBodies (MomRange id)
refusal_of NoRoom = Memory
