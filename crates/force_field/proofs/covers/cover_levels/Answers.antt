use Rattle.std.proofs.Common.{get_or, sym, ◌∙◌, arith}
use Rattle.force_field.proofs.CoverLevels.{leads-start, level-up, leads-on, leads-final, leads-last}
use Rattle.force_field.proofs.covers.cover_levels.Goals as goal

pub loop-init : goal.loop-init
loop-init c = record {
  first = omega arith;
  second = omega arith;
  leads = λ b d. leads-start c.args.all.now.setup.now c.args.all.now.bodies.now c.args.i c.args.j b d c.index-all-i.result c.index-all-j.result _ _ c.parting_level-level.result c.requires.bodies c.requires.first c.requires.second
      c.position.ensures c.position-2.ensures c.parting_level-level.ensures;
}

pub returns-then-is_final-clause-cover : goal.returns-then-is_final-clause-cover
returns-then-is_final-clause-cover c = λ b d.
    let s = c.args.all.now.setup.now in
    let B = c.args.all.now.bodies.now in
    let first = (c.around-first.ensures.nodes s B b c.requires.nodes).each c.loop.a (omega (arith, c.loop.invariant.first, c.loop-test.true)) c.index-first-a.result in
    let second = (c.around-second.ensures.nodes s B d c.requires.nodes).each c.loop.b (omega (arith, c.loop.invariant.second, c.loop-test.true)) c.index-second-b.result in
    leads-final s B (get_or B c.args.i b) (get_or B c.args.j d) _ c.loop.a c.loop.b _ _ first second (sym c.is_final.ensures ∙ c.if-is_final.true) (c.loop.invariant.leads b d)

pub loop-preserved : goal.loop-preserved
loop-preserved c = record {
  first = level-up c.next_level-a.result c.loop.a c.loop.counter _ c.next_level-a.ensures c.loop.invariant.first;
  second = level-up c.next_level-b.result c.loop.b c.loop.counter _ c.next_level-b.ensures c.loop.invariant.second;
  leads = λ b d.
      let s = c.args.all.now.setup.now in
      let B = c.args.all.now.bodies.now in
      let first = (c.around-first.ensures.nodes s B b c.requires.nodes).each c.loop.a (omega (arith, c.loop.invariant.first, c.loop-test.true)) c.index-first-a.result in
      let second = (c.around-second.ensures.nodes s B d c.requires.nodes).each c.loop.b (omega (arith, c.loop.invariant.second, c.loop-test.true)) c.index-second-b.result in
      leads-on s B (get_or B c.args.i b) (get_or B c.args.j d) _ _ c.loop.a c.loop.b c.next_level-a.result c.next_level-b.result _ _ first second (omega (arith, c.loop-test.true))
      (sym c.is_final.ensures ∙ c.if-is_final.false) c.next_level-a.ensures c.next_level-b.ensures (c.loop.invariant.leads b d);
}

pub returns-clause-cover : goal.returns-clause-cover
returns-clause-cover c = λ b d. leads-last c.args.all.now.setup.now c.args.all.now.bodies.now (get_or c.args.all.now.bodies.now c.args.i b) (get_or c.args.all.now.bodies.now c.args.j d) _ c.loop.a c.loop.b (omega (arith, c.loop-test.false, c.loop.auto.counter-end, c.parting_level-level.ensures.high)) (c.loop.invariant.leads b d)
