use Rattle.snapshot_blocks.proofs.Existence.{has_reading}
use Rattle.snapshot_blocks.proofs.list.bytes_have_a_reading.Goals as goal

pub returns : goal.returns
returns c = has_reading c.args.bytes.now
