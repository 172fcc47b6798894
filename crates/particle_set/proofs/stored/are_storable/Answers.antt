use Rattle.std.proofs.Common.{All, subst}
use Rattle.std.proofs.lemmas.List.{take_all}
use Rattle.std.proofs.lemmas.List.Elements.{All-more}
use Rattle.particle_set.specs.Stored.{IsStorable}
use Rattle.particle_set.proofs.stored.are_storable.Goals as goal

pub loop-body-preserved : goal.loop-body-preserved
loop-body-preserved c =
    All-more IsStorable c.args.bodies.now c.loop-body.body-index c.body-item.result c.loop-body-test.true c.loop-body.invariant
    (subst IsStorable c.body-item.is c.is_storable.ensures)

pub returns : goal.returns
returns c = subst (All IsStorable) (take_all c.loop-body.body-index c.args.bodies.now c.loop-body-test.false) c.loop-body.invariant
