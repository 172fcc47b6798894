use Rattle.std.proofs.Common.{get_or, ap, ◌∙◌, arith}
use Rattle.nbody_model.specs.Bodies.{BodyData}
use Rattle.cell_space.specs.Cells.{cell_at}
use Rattle.std.proofs.lemmas.List.{get_or_default}
use Rattle.force_field.specs.Grouped.{gravity_of}
use Rattle.force_field.proofs.ByLevel.{below-none, below-more, below-all, part-most}
use Rattle.force_field.proofs.on_bodies.force_on_body.Goals as goal

pub loop-level-init : goal.loop-level-init
loop-level-init c = record {
  so_far = λ b. below-none (gravity_of c.args.all.now) c.args.all.now.bodies.now (get_or c.args.all.now.bodies.now c.args.i b);
  small = record { on_x = omega arith; on_y = omega arith; on_z = omega arith };
  room = c.requires.room;
}

pub loop-level-preserved : goal.loop-level-preserved
loop-level-preserved c = record {
  so_far = λ b.
      let B = c.args.all.now.bodies.now in
      let x = get_or B c.args.i b in
      let at = c.cell_around-cell.ensures ∙ ap (λ (t : BodyData). cell_at c.loop-level.level t.motion.pos) (get_or_default B c.args.i c.index-all-i.result b c.requires.within) in
      below-more (gravity_of c.args.all.now) B x c.loop-level.level c.loop-level.force c.in_ok-part.part c.plus-force.result c.cell_around-cell.result _ (c.loop-level.invariant.so_far b) at
      ((c.requires.totals b).totals_are c.loop-level.level c.loop-level-test.true) (c.in_ok-part.ensures.value b) c.plus-force.ensures;
  small = part-most c.loop-level.level c.loop-level.force c.in_ok-part.part c.plus-force.result c.plus-force.ensures c.loop-level.invariant.small c.in_ok-part.ensures.small;
  room = c.in_ok-part.ensures.room;
}

pub returns-clause-value : goal.returns-clause-value
returns-clause-value c = λ b. below-all (gravity_of c.args.all.now) c.args.all.now.bodies.now (get_or c.args.all.now.bodies.now c.args.i b) c.loop-level.level c.loop-level.force (omega (arith, c.loop-level.auto.level-end, c.loop-level-test.false)) (c.loop-level.invariant.so_far b)
