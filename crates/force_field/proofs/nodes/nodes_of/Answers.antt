use Rattle.std.proofs.Common.{◌+◌, sym, subst, arith}
use Rattle.force_field.proofs.Flat.{AreMade, more_made, all_made}
use Rattle.force_field.proofs.nodes.nodes_of.Goals as goal

pub loop-k-preserved : goal.loop-k-preserved
loop-k-preserved c = subst (AreMade c.args.setup.now c.args.bodies.now (c.loop-k.k + 1)) (sym c.in_ok-push.ensures.items) (more_made c.args.setup.now c.args.bodies.now c.loop-k.k c.loop-k.nodes.items c.node_of.result c.loop-k.invariant c.node_of.ensures)

pub returns : goal.returns
returns c = all_made c.args.setup.now c.args.bodies.now c.loop-k.k c.loop-k.nodes.items (omega (arith, c.loop-k.auto.k-end, c.loop-k-test.false)) c.loop-k.invariant
