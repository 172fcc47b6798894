-- Blocks written one behind the other, and what listing them gives.
use Rattle.std.specs.Prelude.{◌≡◌, ◌<◌, ◌+◌, ◌^◌, ℕ, List, [], ◌∷◌, length, All}
use Rattle.std.specs.List.{flat_map}
use Rattle.fixed_point.specs.Bytes.{framed}
use Rattle.snapshot_blocks.specs.declared.block.Block.{Block}
use Rattle.snapshot_blocks.specs.Blocks.{Spell}

-- a block's name and contents, in bytes
pub record Part : Type 0 where
  pub name : List ℕ
  pub contents : List ℕ

-- the name has four bytes, and the contents are short enough for their frame
pub record IsPart (part : Part) : Type 0 where
  pub four : length part.name ≡ 4
  pub short : length part.contents + 8 < 2 ^ 32

-- the bytes of these blocks
abbrev pub written : List Part → List ℕ
written parts = flat_map (λ part. framed part.name part.contents) parts

-- these blocks with the places of their contents, the first block beginning at a place
abbrev pub placed : ℕ → List Part → List Block
placed p [] = []
placed p (part ∷ parts) =
    record { name = part.name; at = p + 20; len = length part.contents } ∷ placed (p + 24 + length part.contents) parts

-- bytes written as blocks are these blocks
abbrev pub ListsWritten : Type 0
ListsWritten = (parts : List Part) → All IsPart parts → Spell (written parts) (placed 0 parts)
