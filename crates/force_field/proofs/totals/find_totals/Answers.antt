use Rattle.std.proofs.Common.{◌+◌, get_or, ap, ◌∙◌, arith}
use Rattle.std.specs.List.{count_by}
use Rattle.std.proofs.lemmas.List.{take_all}
use Rattle.nbody_model.specs.Covers.{opening_of}
use Rattle.model_laws.specs.Firsts.{stands_for}
use Rattle.force_field.specs.Grouped.{gravity_of}
use Rattle.force_field.proofs.At.{nobody}
use Rattle.force_field.proofs.Adding.{next-fits, next-small, next-found, all-found}
use Rattle.force_field.proofs.totals.find_totals.Goals as goal

pub add_at-requires-clause-within : goal.add_at-requires-clause-within
add_at-requires-clause-within c = omega (arith, (c.part_of-part.ensures nobody nobody).shallow, c.loop-j.invariant.small.long)

pub add_at-requires-clause-fits : goal.add_at-requires-clause-fits
add_at-requires-clause-fits c =
    let part = c.part_of-part.ensures nobody nobody in
    next-fits c.loop-j.j c.part_of-part.result.level c.loop-j.totals c.part_of-part.result.force (omega (arith, c.loop-j-test.true, c.requires.bodies.valid.few)) (omega (arith, part.shallow)) c.loop-j.invariant.small part.small

pub loop-j-preserved : goal.loop-j-preserved
loop-j-preserved c =
    let part = c.part_of-part.ensures nobody nobody in
    record {
      found = λ b. next-found (gravity_of c.args.all.now) c.args.all.now.bodies.now (get_or c.args.all.now.bodies.now c.args.i b) nobody c.loop-j.j c.loop-j.totals c.add_at.new.totals c.loop-j.count _ c.part_of-part.result
          c.loop-j-test.true c.loop-j.invariant.small.long (c.part_of-part.ensures b nobody) c.add_at.ensures (ap (λ n. c.loop-j.count + n) c.one_if-count.ensures.value) (c.loop-j.invariant.found b);
      small = next-small c.loop-j.j c.part_of-part.result.level c.loop-j.totals c.add_at.new.totals c.part_of-part.result.force (omega (arith, part.shallow)) c.loop-j.invariant.small part.small c.add_at.ensures;
      few = omega (arith, c.one_if-count.ensures.most, c.loop-j.invariant.few);
    }

pub returns-clause-totals : goal.returns-clause-totals
returns-clause-totals c = λ b.
    all-found (gravity_of c.args.all.now) c.args.all.now.bodies.now c.args.i b c.loop-j.j c.loop-j.totals c.loop-j.count c.requires.bodies c.requires.within c.loop-j-test.false (omega (arith, c.loop-j.auto.j-end, c.requires.bodies.valid.few)) (c.loop-j.invariant.found b) c.loop-j.invariant.small

pub returns-clause-count : goal.returns-clause-count
returns-clause-count c = λ b.
    let B = c.args.all.now.bodies.now in
    (c.loop-j.invariant.found b).counted ∙ ap (count_by (stands_for (opening_of c.args.all.now.setup.now B) B (get_or B c.args.i b))) (take_all c.loop-j.j B c.loop-j-test.false)
