use Rattle.std.proofs.Common.{◌≤◌, ◌-◌, get_or}
use Rattle.nbody_model.specs.Bodies.{BodyData}
use Rattle.force_field.proofs.CoverLevels.{Leads}
use Rattle.force_field.proofs.covers.cover_levels.Given as goal

abbrev pub invariant-loop : goal.invariant-loop
invariant-loop l = record {
  first : l.a ≤ l.counter;
  second : l.b ≤ l.counter;
  leads : (b d : BodyData) → Leads l.all.setup.now l.all.bodies.now (get_or l.all.bodies.now l.i b) (get_or l.all.bodies.now l.j d) (32 - l.counter) l.a l.b;
}
