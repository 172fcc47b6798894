use Rattle.std.proofs.Common.{◌≡◌, ◌≤◌, ◌-◌, length, take}
use Rattle.rank_laws.specs.Contents.{EntryData}
use Rattle.home_cells.specs.Found.{gathered, along}
use Rattle.octree_build.specs.Slots.{keys_below}
use Rattle.home_cells.proofs.gather.gather.Given as goal

abbrev pub invariant-loop-k : goal.invariant-loop-k
invariant-loop-k l = (l.k ≤ keys_below l.kept.order.now l.high) × ((d : EntryData) → l.sum ≡ gathered l.cell (take l.k (along l.kept.entries.now l.kept.order.now d)))

abbrev pub decreases-loop-k : goal.decreases-loop-k
decreases-loop-k l = length l.kept.order.now - l.k
