use Rattle.snap_file.proofs.NoFault.{reads_one_way}
use Rattle.snap_file.proofs.round_trip.reading_is_exact.Goals as goal

pub returns : goal.returns
returns c = reads_one_way c.args.bytes.now
