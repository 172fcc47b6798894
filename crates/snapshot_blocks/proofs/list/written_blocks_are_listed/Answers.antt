use Rattle.snapshot_blocks.proofs.ReadBack.{lists_written}
use Rattle.snapshot_blocks.proofs.list.written_blocks_are_listed.Goals as goal

pub returns : goal.returns
returns c = lists_written
