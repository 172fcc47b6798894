use Rattle.std.proofs.Common.{◌≡◌, List, [], ◌∷◌, ◌++◌, map, ap, sym, ◌∙◌, arith}
use Rattle.std.specs.List.{range_with_len}
use Rattle.std.proofs.lemmas.List.Elements.{All-push}
use Rattle.std.proofs.lemmas.List.FromFn.{map-range_with_len_more}
use Rattle.particle_set.specs.declared.row.Row.{Row}
use Rattle.particle_set.specs.Rows.{HasKind}
use Rattle.restart_files.specs.RestartFile.{row_in}
use Rattle.restart_files.proofs.bodies.rows_of.Goals as goal

pub loop-index-preserved : goal.loop-index-preserved
loop-index-preserved c =
    let f = row_in c.args.bytes.now in
    let index = c.loop-index.index in
    let pushed : c.push.new.self.items ≡ c.loop-index.rows.items ++ c.row_at.result ∷ [] = c.in_ok-push.ensures.items in
    let so_far : c.loop-index.rows.items ≡ map f (range_with_len 0 index) = c.loop-index.invariant.1 in
    let row : c.row_at.result ≡ f index = c.row_at.ensures.value in
    let more = map-range_with_len_more f 0 index index (omega arith) in (
      rw pushed (All-push HasKind c.loop-index.rows.items c.row_at.result c.loop-index.invariant.0 c.row_at.ensures.kind),
      pushed ∙ ap (λ (rows : List Row). rows ++ c.row_at.result ∷ []) so_far ∙ ap (λ (r : Row). map f (range_with_len 0 index) ++ r ∷ []) row ∙ sym more,
    )
