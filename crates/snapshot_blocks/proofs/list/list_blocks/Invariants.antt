use Rattle.std.proofs.Common.{◌≤◌, ◌-◌, length, All}
use Rattle.snapshot_blocks.specs.Blocks.{Fill, IsWithin}
use Rattle.snapshot_blocks.proofs.list.list_blocks.Given as goal

abbrev pub invariant-loop-p : goal.invariant-loop-p
invariant-loop-p l = (Fill l.bytes 0 l.p l.blocks.items) × (l.p ≤ length l.bytes) × All (IsWithin l.bytes) l.blocks.items

abbrev pub decreases-loop-p : goal.decreases-loop-p
decreases-loop-p l = length l.bytes - l.p
