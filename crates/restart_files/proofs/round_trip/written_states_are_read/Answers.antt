use Rattle.std.proofs.Common.{◌≡◌, All, ap, subst, ◌∙◌}
use Rattle.nbody_model.specs.Bodies.{IsValid}
use Rattle.nbody_model.specs.Setups.{IsSetup}
use Rattle.particle_set.specs.Stored.{IsStorable}
use Rattle.restart_files.proofs.RoundTrip.{reads_written}
use Rattle.restart_files.proofs.round_trip.written_states_are_read.Goals as goal

pub returns : goal.returns
returns c =
    let σ = c.args.state.now in
    let same : c.state.inside.set ≡ σ.bodies = ap (λ t. t.bodies) c.state.view_is in
    reads_written σ c.args.setup.now (subst IsValid same c.bodies.ensures.valid) (subst (All IsStorable) (c.bodies.ensures.value ∙ same) c.are_storable.ensures)
    c.are_counters_storable.ensures (subst IsSetup c.setup.view_is c.setup.invariant) c.requires
