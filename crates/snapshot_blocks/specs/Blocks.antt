-- Blocks that stand one behind the other in bytes, and the first fault where they don't.
use Rattle.std.specs.Prelude.{◌≡◌, ◌⊎◌, ◌<◌, ◌≤◌, ◌==◌, ◌+◌, ◌-◌, ℕ, not, nat_lt, if◌then◌else◌, List, [], ◌∷◌, length, slice_range, Option, Some, None}
use Rattle.fixed_point.specs.Bytes.{word32_at}
use Rattle.snapshot_blocks.specs.declared.block.Block.{Block}
use Rattle.snapshot_blocks.specs.declared.block.BlockErr.{BlockErr}
use Rattle.snapshot_blocks.specs.declared.block.BlockKind.{BlockKind}
use Rattle.snapshot_blocks.specs.declared.block.BlockKind.TheVariants.{Truncated, NameFrame, FrameDiffers, SkipDiffers, Memory}

-- the first condition that applies to a block that begins here, by the rows of the table of framing faults
abbrev pub fault_at : List ℕ → ℕ → Option (ℕ × BlockKind)
fault_at bytes p =
    let len = word32_at bytes (p + 16) in
    if nat_lt (length bytes - p) 4 then Some (p, Truncated)
    else (if not (word32_at bytes p == 8) then Some (p, NameFrame)
    else (if nat_lt (length bytes - p) 16 then Some (p, Truncated)
    else (if not (word32_at bytes (p + 12) == 8) then Some (p + 12, FrameDiffers 8 (word32_at bytes (p + 12)))
    else (if nat_lt (length bytes - p) 20 then Some (p + 16, Truncated)
    else (if not (word32_at bytes (p + 8) == len + 8) then Some (p + 8, SkipDiffers)
    else (if nat_lt (length bytes - p) (24 + len) then Some (p + 16, Truncated)
    else (if not (word32_at bytes (p + 20 + len) == len) then Some (p + 20 + len, FrameDiffers len (word32_at bytes (p + 20 + len)))
    else None)))))))

-- the block stands at this place
pub record StandsAt (bytes : List ℕ) (p : ℕ) (block : Block) : Type 0 where
  pub name_frame : word32_at bytes p ≡ 8
  pub name : block.name ≡ slice_range bytes (p + 4) (p + 8)
  pub skip : word32_at bytes (p + 8) ≡ block.len + 8
  pub name_end : word32_at bytes (p + 12) ≡ 8
  pub first : word32_at bytes (p + 16) ≡ block.len
  pub at : block.at ≡ p + 20
  pub last : word32_at bytes (p + 20 + block.len) ≡ block.len
  pub within : p + 24 + block.len ≤ length bytes

-- the blocks stand one behind the other from the first place up to the second
abbrev pub Fill : List ℕ → ℕ → ℕ → List Block → Type 0
Fill bytes p q [] = p ≡ q
Fill bytes p q (block ∷ blocks) = StandsAt bytes p block × Fill bytes (p + 24 + block.len) q blocks

-- the bytes are these blocks
abbrev pub Spell : List ℕ → List Block → Type 0
Spell bytes blocks = Fill bytes 0 (length bytes) blocks

-- the bytes before some place are blocks, and the first condition that applies there is this
pub record IsFirstFault (bytes : List ℕ) (err : BlockErr) : Type 0 where
  pub place : ℕ
  pub blocks : List Block
  pub before : Fill bytes 0 place blocks
  pub inside : place < length bytes
  pub is : fault_at bytes place ≡ Some (err.at, err.kind)

abbrev pub IfFramedKind : BlockKind → Type 0 → Type 0
IfFramedKind Memory P = Unit {0}
IfFramedKind Truncated P = P
IfFramedKind NameFrame P = P
IfFramedKind (FrameDiffers first last) P = P
IfFramedKind SkipDiffers P = P

-- P, if the error is one of framing and not of memory
abbrev pub IfFramed : BlockErr → Type 0 → Type 0
IfFramed err P = IfFramedKind err.kind P

-- the bytes are blocks in at most one way, have at most one first fault, and never both
pub record ReadOneWay (bytes : List ℕ) : Type 0 where
  pub one_value : (xs ys : List Block) → Spell bytes xs → Spell bytes ys → xs ≡ ys
  pub one_fault : (e f : BlockErr) → IsFirstFault bytes e → IsFirstFault bytes f → e ≡ f
  pub apart : (xs : List Block) (e : BlockErr) → Spell bytes xs → IsFirstFault bytes e → ⊥

-- the bytes are blocks, or they have a first fault
abbrev pub HasReading : List ℕ → Type 0
HasReading bytes = ((blocks : List Block) × Spell bytes blocks) ⊎ ((err : BlockErr) × IsFirstFault bytes err)

-- a block's contents lie within the bytes
pub record IsWithin (bytes : List ℕ) (block : Block) : Type 0 where
  pub ends : block.at + block.len ≤ length bytes
