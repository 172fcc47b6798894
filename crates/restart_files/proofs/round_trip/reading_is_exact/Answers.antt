use Rattle.restart_files.proofs.OneReading.{reads_one_way}
use Rattle.restart_files.proofs.round_trip.reading_is_exact.Goals as goal

pub returns : goal.returns
returns c = reads_one_way c.args.bytes.now
