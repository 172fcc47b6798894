-- What a force does to the places of two nodes.
use Rattle.std.specs.Prelude.{ℕ, List, slice_index_or, slice_set}
use Rattle.fixed_point.specs.declared.V3.{V3}
use Rattle.fixed_point.specs.Vectors.{origin, plus, negative}

-- what stands at a place
abbrev pub value_at : List V3 → ℕ → V3
value_at places k = slice_index_or places k origin

-- place i raised by a force, and place j lowered by it; nothing else changes
unfoldable pub moved : List V3 → ℕ → ℕ → V3 → List V3
moved places i j force = slice_set (slice_set places i (plus (value_at places i) force)) j (plus (value_at places j) (negative force))
