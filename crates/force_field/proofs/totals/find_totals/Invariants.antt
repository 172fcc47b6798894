use Rattle.std.proofs.Common.{◌≤◌, get_or}
use Rattle.nbody_model.specs.Bodies.{BodyData}
use Rattle.force_field.specs.Grouped.{gravity_of}
use Rattle.force_field.proofs.Adding.{IsFound, AreSmall}
use Rattle.force_field.proofs.totals.find_totals.Given as goal

abbrev pub invariant-loop-j : goal.invariant-loop-j
invariant-loop-j l = record {
  found : (b : BodyData) → IsFound (gravity_of l.all) l.all.bodies.now (get_or l.all.bodies.now l.i b) l.j l.totals l.count;
  small : AreSmall l.j l.totals;
  few : l.count ≤ l.j;
}
