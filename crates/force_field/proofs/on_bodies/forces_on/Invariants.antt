use Rattle.std.proofs.Common.{◌≡◌, ◌≤◌, ◌*◌, ◌^◌, length, map, take, sum_by, All}
use Rattle.std.specs.List.{count_by}
use Rattle.fixed_point.specs.Vectors.{IsBelow}
use Rattle.nbody_model.specs.Covers.{opening_of}
use Rattle.nbody_model.specs.Force.{force_at}
use Rattle.model_laws.specs.Firsts.{stands_for}
use Rattle.force_field.specs.Grouped.{gravity_of}
use Rattle.force_field.specs.Shared.{HasRoom}
use Rattle.force_field.proofs.on_bodies.forces_on.Given as goal

abbrev pub invariant-loop-i : goal.invariant-loop-i
invariant-loop-i l = record {
  so_far : l.forces.items ≡ map (force_at (gravity_of l.all) l.all.bodies.now) (take l.i l.all.bodies.now);
  small : All (IsBelow (2 ^ 118)) l.forces.items;
  counted : l.interactions ≡ sum_by (λ b. count_by (stands_for (opening_of l.all.setup.now l.all.bodies.now) l.all.bodies.now b) l.all.bodies.now) (take l.i l.all.bodies.now);
  few : l.interactions ≤ l.i * 1048576;
  room : HasRoom (length l.all.bodies.now) l.work;
  long : length l.totals ≡ 33;
}
