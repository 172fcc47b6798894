use Rattle.std.proofs.Common.{◌^◌, arith}
use Rattle.std.specs.List.{count_by}
use Rattle.fixed_point.specs.Vectors.{IsBelow}
use Rattle.nbody_model.specs.Covers.{opening_of}
use Rattle.model_laws.specs.Firsts.{stands_for}
use Rattle.force_field.specs.Grouped.{gravity_of}
use Rattle.force_field.proofs.At.{nobody}
use Rattle.force_field.proofs.ByLevel.{forces-more, forces-all, each-more, counts-more}
use Rattle.force_field.proofs.on_bodies.forces_on.Goals as goal

pub loop-i-preserved : goal.loop-i-preserved
loop-i-preserved c =
    let B = c.args.all.now.bodies.now in
    let g = gravity_of c.args.all.now in
    record {
      so_far = forces-more g B c.loop-i.i nobody c.loop-i.forces.items c.push.new.self.items c.in_ok-force_on_body.field-0 c.loop-i-test.true c.loop-i.invariant.so_far (c.in_ok-force_on_body.ensures.value nobody) c.in_ok-push.ensures.items;
      small = each-more (IsBelow (2 ^ 118)) c.loop-i.forces.items c.push.new.self.items c.in_ok-force_on_body.field-0 c.loop-i.invariant.small c.in_ok-force_on_body.ensures.small c.in_ok-push.ensures.items;
      counted = counts-more (λ b. count_by (stands_for (opening_of c.args.all.now.setup.now B) B b) B) B c.loop-i.i nobody c.loop-i.interactions c.find_totals.result c.loop-i-test.true c.loop-i.invariant.counted (c.find_totals.ensures.count nobody);
      few = omega (arith, c.loop-i.invariant.few, c.find_totals.ensures.few, c.requires.bodies.valid.few);
      room = c.in_ok-force_on_body.ensures.room;
      long = c.find_totals.ensures.long;
    }

pub returns-clause-forces : goal.returns-clause-forces
returns-clause-forces c = forces-all (gravity_of c.args.all.now) c.args.all.now.bodies.now c.loop-i.i c.loop-i.forces.items c.loop-i-test.false c.loop-i.invariant.so_far
