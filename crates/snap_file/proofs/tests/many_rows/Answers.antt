use Rattle.std.proofs.Common.{◌≡◌, ◌++◌, ◌∷◌, []}
use Rattle.std.proofs.lemmas.List.Elements.{All-push}
use Rattle.particle_set.specs.Rows.{HasKind}
use Rattle.snap_file.proofs.tests.many_rows.Goals as goal

pub loop-id-preserved : goal.loop-id-preserved
loop-id-preserved c =
    let pushed : c.push.new.self.items ≡ c.loop-id.rows.items ++ c.row.result ∷ [] = c.in_ok-push.ensures.items in
    rw pushed (All-push HasKind c.loop-id.rows.items c.row.result c.loop-id.invariant c.row.ensures)
