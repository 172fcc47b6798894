use Rattle.std.proofs.Common.{◌≡◌, drop}
use Rattle.snap_file.specs.Snapshots.{block_named}
use Rattle.snap_file.proofs.find.find_block.Given as goal

abbrev pub invariant-loop-block : goal.invariant-loop-block
invariant-loop-block l = block_named l.name (drop l.block-index l.blocks) ≡ block_named l.name l.blocks
