-- The text of a snapshot.
use Rattle.std.specs.Prelude.{ℕ, ◌==◌, List, ◌++◌, length, filter, replicate, codes}
use Rattle.std.specs.List.{flat_map}
use Rattle.fixed_point.specs.Bytes.{bytes32, bytes64, signed_bytes64, framed}
use Rattle.nbody_model.specs.Bodies.{BodyData}

-- the names of the five blocks
abbrev pub head_name : List ℕ
head_name = codes "HEAD"

abbrev pub position_name : List ℕ
position_name = codes "POS "

abbrev pub momentum_name : List ℕ
momentum_name = codes "MOM "

abbrev pub id_name : List ℕ
id_name = codes "ID  "

abbrev pub mass_name : List ℕ
mass_name = codes "MASS"

-- the first bytes of the head
abbrev pub snapshot_tag : List ℕ
snapshot_tag = codes "I4SNAP01"

-- the bodies of a kind, ascending in id
abbrev pub of_kind : List BodyData → ℕ → List BodyData
of_kind B kind = filter (λ b. b.kind == kind) B

-- the bodies as a snapshot has them: by kind, and ascending in id within a kind
unfoldable pub by_kind : List BodyData → List BodyData
by_kind B = of_kind B 1 ++ of_kind B 2 ++ of_kind B 3 ++ of_kind B 4 ++ of_kind B 5

-- how many bodies there are of the kinds 0 to 5
unfoldable pub counts_text : List BodyData → List ℕ
counts_text B =
    bytes32 0 ++ bytes32 (length (of_kind B 1)) ++ bytes32 (length (of_kind B 2)) ++ bytes32 (length (of_kind B 3))
    ++ bytes32 (length (of_kind B 4)) ++ bytes32 (length (of_kind B 5))

-- the head: the tag, the counts, the tick, the number of the snapshot, and zeros, 256 bytes together
unfoldable pub head_text : List BodyData → ℕ → ℕ → List ℕ
head_text B tick number = snapshot_tag ++ counts_text B ++ bytes64 tick ++ bytes32 number ++ replicate 212 0

-- what each block has of a body
abbrev pub position_text : BodyData → List ℕ
position_text b = bytes32 b.motion.pos.x ++ bytes32 b.motion.pos.y ++ bytes32 b.motion.pos.z

abbrev pub momentum_text : BodyData → List ℕ
momentum_text b = signed_bytes64 b.motion.mom.x ++ signed_bytes64 b.motion.mom.y ++ signed_bytes64 b.motion.mom.z

abbrev pub id_text : BodyData → List ℕ
id_text b = bytes64 b.id

abbrev pub mass_text : BodyData → List ℕ
mass_text b = bytes32 b.mass

-- a block of a column: what f gives of each body
unfoldable pub column_text : List ℕ → (BodyData → List ℕ) → List BodyData → List ℕ
column_text name f B = framed name (flat_map f (by_kind B))

-- a snapshot of these bodies at a tick; the number is taken modulo 2^32
unfoldable pub snapshot_text : List BodyData → ℕ → ℕ → List ℕ
snapshot_text B tick number =
    framed head_name (head_text B tick number) ++ column_text position_name position_text B ++ column_text momentum_name momentum_text B
    ++ column_text id_name id_text B ++ column_text mass_name mass_text B
