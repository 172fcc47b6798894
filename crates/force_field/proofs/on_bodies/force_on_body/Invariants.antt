use Rattle.std.proofs.Common.{◌≡◌, ◌*◌, ◌^◌, length, get_or}
use Rattle.fixed_point.specs.Vectors.{IsAtMost}
use Rattle.nbody_model.specs.Bodies.{BodyData}
use Rattle.force_field.specs.Grouped.{gravity_of}
use Rattle.force_field.specs.Shared.{HasRoom}
use Rattle.force_field.proofs.ByLevel.{below}
use Rattle.force_field.proofs.on_bodies.force_on_body.Given as goal

abbrev pub invariant-loop-level : goal.invariant-loop-level
invariant-loop-level l = record {
  so_far : (b : BodyData) → l.force ≡ below (gravity_of l.all) l.all.bodies.now (get_or l.all.bodies.now l.i b) l.level;
  small : IsAtMost (l.level * 2 ^ 108) l.force;
  room : HasRoom (length l.all.bodies.now) l.work;
}
