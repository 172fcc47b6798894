use Rattle.std.proofs.Common.{◌≡◌, ◌≤◌, ◌<◌, ℕ, false}
use Rattle.std.specs.Prelude.{slice_index_or}
use Rattle.cell_space.specs.Cells.{contains, place}
use Rattle.octree_build.specs.Trees.{NodeData}
use Rattle.octree_build.proofs.tree.child_around.Given as goal

abbrev pub invariant-loop-k : goal.invariant-loop-k
invariant-loop-k l = (m : ℕ) (d : NodeData) → l.first ≤ m → m < l.k → contains (slice_index_or l.nodes m d).moments.cell (place l.pos) ≡ false
