use Rattle.std.proofs.Common.{◌≡◌, ◌+◌, ◌*◌, List, [], ◌∷◌, ◌++◌, map, ap, sym, subst, ◌∙◌, All, arith}
use Rattle.std.specs.List.{range_with_len}
use Rattle.std.proofs.lemmas.List.FromFn.{map-range_with_len_more}
use Rattle.store_io.specs.SeededSchedule.{seed_of}
use Rattle.particle_set.specs.declared.row.Row.{Row}
use Rattle.particle_set.specs.Rows.{HasKind}
use Rattle.made_bodies.specs.Draws.{draw, state_after}
use Rattle.made_bodies.specs.Drawn.{drawn_row, row_by}
use Rattle.made_bodies.proofs.Drawing.{no_draws, next_state_after, row_behind}
use Rattle.made_bodies.proofs.Sets.{kinds}
use Rattle.made_bodies.proofs.bodies.draw_rows.Goals as goal

pub loop-place-init : goal.loop-place-init
loop-place-init c = (c.in_ok-rows.ensures.items, no_draws c.args.seed (seed_of c.seed.new.self) c.seed.ensures)

pub loop-place-preserved : goal.loop-place-preserved
loop-place-preserved c =
    let f = drawn_row c.args.seed in
    let place = c.loop-place.place in
    let pushed : c.push.new.self.items ≡ c.loop-place.rows.items ++ c.next_row.result ∷ [] = c.in_ok-push.ensures.items in
    let so_far : c.loop-place.rows.items ≡ map f (range_with_len 0 place) = c.loop-place.invariant.0 in
    let state : seed_of c.loop-place.order ≡ state_after c.args.seed (7 * place) = c.loop-place.invariant.1 in
    let row : c.next_row.result ≡ f place = c.next_row.ensures.value ∙ ap (λ s. row_by (draw s) (place + 1)) state ∙ row_behind c.args.seed place in
    let more = map-range_with_len_more f 0 place place (omega arith) in (
      pushed ∙ ap (λ (rows : List Row). rows ++ c.next_row.result ∷ []) so_far ∙ ap (λ (r : Row). map f (range_with_len 0 place) ++ r ∷ []) row ∙ sym more,
      next_state_after c.args.seed place (seed_of c.loop-place.order) (seed_of c.next_row.new.order) state c.next_row.ensures.state,
    )

pub returns-clause-kinds : goal.returns-clause-kinds
returns-clause-kinds c = subst (All HasKind) (sym c.loop-place.invariant.0) (kinds c.args.seed c.loop-place.place)
