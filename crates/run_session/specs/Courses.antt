-- What a run goes by, as the definitions have it.
use Rattle.std.specs.Prelude.{Bool}
use Rattle.std.specs.Option.{option_copied}
use Rattle.nbody_model.specs.Tables.{Gravity}
use Rattle.run_session.specs.declared.course.Course.{Course}
use Rattle.run_session.specs.Worlds.{World}
use Rattle.run_session.specs.Stages.{Basis, basis}

-- by forces that stand for this
abbrev pub basis_of : Gravity → Course → Bool → World → Basis
basis_of g c told start = basis g (option_copied c.expansion) c.params.now c.own.now c.outputs.now told start
