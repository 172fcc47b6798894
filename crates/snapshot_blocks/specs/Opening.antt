-- What stands before the contents of a block.
use Rattle.std.specs.Prelude.{ℕ, ◌+◌, List, ◌++◌}
use Rattle.fixed_point.specs.Bytes.{bytes32}

-- the name between frames of 8, in the second of them how far the next block is, and the length of the contents
unfoldable pub opening : List ℕ → ℕ → List ℕ
opening name len = bytes32 8 ++ name ++ bytes32 (len + 8) ++ bytes32 8 ++ bytes32 len
