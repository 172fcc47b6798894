use Rattle.std.proofs.Common.{All, sym, subst}
use Rattle.std.proofs.lemmas.List.Elements.{All-push}
use Rattle.particle_set.specs.Rows.{HasKind}
use Rattle.groups.proofs.tests.some_bodies.Goals as goal

pub loop-i-preserved : goal.loop-i-preserved
loop-i-preserved c = subst (All HasKind) (sym c.in_ok-push.ensures.items) (All-push HasKind c.loop-i.rows.items c.row.result c.loop-i.invariant c.row.ensures)
