use Rattle.std.proofs.Common.{All, subst}
use Rattle.particle_set.specs.Stored.{IsStorable}
use Rattle.snap_file.proofs.RoundTrip.{reads_written}
use Rattle.snap_file.proofs.round_trip.written_snapshots_are_read.Goals as goal

pub returns : goal.returns
returns c =
    reads_written c.args.set.now c.args.tick c.args.number c.bodies.ensures.valid
    (subst (All IsStorable) c.bodies.ensures.value c.are_storable.ensures) c.ranges.tick.fits c.ranges.number.fits
