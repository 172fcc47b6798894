-- Numbers as bytes, the lowest byte first, and blocks framed by their length.
use Rattle.std.specs.Prelude.{ℕ, ◌+◌, ℤ, pos, List, [], ◌∷◌, ◌++◌, length, slice_index, get_or}
use Rattle.std.specs.Int.{w32, w64, w128, to_le_bytes, from_le_bytes, cast_unsigned, cast_signed}

-- a number below 2^32 in four bytes, below 2^64 in eight, below 2^128 in sixteen
abbrev pub bytes32 : ℕ → List ℕ
bytes32 n = to_le_bytes w32 n

abbrev pub bytes64 : ℕ → List ℕ
bytes64 n = to_le_bytes w64 n

abbrev pub bytes128 : ℕ → List ℕ
bytes128 n = to_le_bytes w128 n

-- a signed number in eight bytes, as its two's complement
abbrev pub signed_bytes64 : ℤ → List ℕ
signed_bytes64 z = bytes64 (cast_unsigned w64 z)

-- three signed numbers behind a list, in eight bytes each
abbrev pub with_signed : List ℕ → List ℤ → List ℕ
with_signed out zs = out ++ signed_bytes64 (get_or zs 0 (pos 0)) ++ signed_bytes64 (get_or zs 1 (pos 0)) ++ signed_bytes64 (get_or zs 2 (pos 0))

-- a block: its name between frames of 8, then its contents between frames of their length
unfoldable pub framed : List ℕ → List ℕ → List ℕ
framed name contents =
    let len = length contents in
    bytes32 8 ++ name ++ bytes32 (len + 8) ++ bytes32 8 ++ bytes32 len ++ contents ++ bytes32 len

-- the number in four bytes, or in eight, from a place on, the lowest byte first
unfoldable pub word32_at : List ℕ → ℕ → ℕ
word32_at bytes at =
    from_le_bytes w32 (slice_index bytes at ∷ slice_index bytes (at + 1) ∷ slice_index bytes (at + 2) ∷ slice_index bytes (at + 3) ∷ [])

unfoldable pub word64_at : List ℕ → ℕ → ℕ
word64_at bytes at =
    from_le_bytes w64 (slice_index bytes at ∷ slice_index bytes (at + 1) ∷ slice_index bytes (at + 2) ∷ slice_index bytes (at + 3)
    ∷ slice_index bytes (at + 4) ∷ slice_index bytes (at + 5) ∷ slice_index bytes (at + 6) ∷ slice_index bytes (at + 7) ∷ [])

-- the signed number whose two's complement stands in eight bytes from a place on
abbrev pub signed64_at : List ℕ → ℕ → ℤ
signed64_at bytes at = cast_signed w64 (word64_at bytes at)
