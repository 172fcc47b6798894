use Rattle.std.proofs.Common.{◌≡◌, List, [], ◌∷◌, ◌++◌, map, ap, sym, ◌∙◌, arith}
use Rattle.std.specs.List.{range_with_len}
use Rattle.std.proofs.lemmas.List.Elements.{All-push}
use Rattle.std.proofs.lemmas.List.FromFn.{map-range_with_len_more}
use Rattle.particle_set.specs.declared.row.Row.{Row}
use Rattle.particle_set.specs.Rows.{HasKind}
use Rattle.snap_file.specs.Snapshots.{row_in}
use Rattle.snap_file.specs.Texts.{texts_of}
use Rattle.snap_file.proofs.rows.rows_of.Goals as goal

pub loop-place-preserved : goal.loop-place-preserved
loop-place-preserved c =
    let f = row_in c.args.counts (texts_of c.args.columns.now) in
    let place = c.loop-place.place in
    let pushed : c.push.new.self.items ≡ c.loop-place.rows.items ++ c.row_at.result ∷ [] = c.in_ok-push.ensures.items in
    let so_far : c.loop-place.rows.items ≡ map f (range_with_len 0 place) = c.loop-place.invariant.1 in
    let row : c.row_at.result ≡ f place = c.row_at.ensures.value in
    let more = map-range_with_len_more f 0 place place (omega arith) in (
      rw pushed (All-push HasKind c.loop-place.rows.items c.row_at.result c.loop-place.invariant.0 c.row_at.ensures.kind),
      pushed ∙ ap (λ (rows : List Row). rows ++ c.row_at.result ∷ []) so_far ∙ ap (λ (r : Row). map f (range_with_len 0 place) ++ r ∷ []) row ∙ sym more,
    )
