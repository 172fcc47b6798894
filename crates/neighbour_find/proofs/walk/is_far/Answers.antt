use Rattle.std.proofs.Common.{rules, ◌≡◌, ◌<◌, ◌*◌, ◌/◌, ◌^◌, ℕ, ap, sym, subst, ◌∙◌, arith}
use Rattle.std.specs.Prelude.{slice_index}
use Rattle.cell_space.specs.Cells.{place, width_of}
use Rattle.neighbour_find.proofs.Gaps.{corner_room, far_by}
use Rattle.neighbour_find.proofs.walk.is_far.Goals as goal

pub gap-requires-clause-room : goal.gap-requires-clause-room
gap-requires-clause-room c =
    let small : slice_index c.cell.inside.corner 0 < 2 ^ 32 = search rules in
    let wide : c.side-width.result ≡ width_of c.cell.inside.level = search rules in
    omega (arith, corner_room c.cell.inside.level (slice_index c.cell.inside.corner 0) c.cell.invariant.shallow c.cell.invariant.whole_x small, wide)

pub gap-requires-2-clause-room : goal.gap-requires-2-clause-room
gap-requires-2-clause-room c =
    let small : slice_index c.cell.inside.corner 1 < 2 ^ 32 = search rules in
    let wide : c.side-width.result ≡ width_of c.cell.inside.level = search rules in
    omega (arith, corner_room c.cell.inside.level (slice_index c.cell.inside.corner 1) c.cell.invariant.shallow c.cell.invariant.whole_y small, wide)

pub gap-requires-3-clause-room : goal.gap-requires-3-clause-room
gap-requires-3-clause-room c =
    let small : slice_index c.cell.inside.corner 2 < 2 ^ 32 = search rules in
    let wide : c.side-width.result ≡ width_of c.cell.inside.level = search rules in
    omega (arith, corner_room c.cell.inside.level (slice_index c.cell.inside.corner 2) c.cell.invariant.shallow c.cell.invariant.whole_z small, wide)

pub returns : goal.returns
returns c t p box e =
    let co = c.cell.inside.corner in
    let w = c.side-width.result in
    let wide : w ≡ width_of c.cell.inside.level = search rules in
    let level : c.cell.inside.level ≡ c.args.cell.now.level = search rules in
    let some : 0 < w = search rules in
    let x : c.args.cell.now.x ≡ slice_index co 0 / w = search rules in
    let y : c.args.cell.now.y ≡ slice_index co 1 / w = search rules in
    let z : c.args.cell.now.z ≡ slice_index co 2 / w = search rules in
    far_by c.args.around.now.square w (place c.args.around.now.pos) c.args.cell.now (slice_index co 0) (slice_index co 1) (slice_index co 2) c.gap.result c.gap-2.result c.gap-3.result c.square_of.result c.square_of-2.result c.square_of-3.result
    some (wide ∙ ap width_of level) x y z
    (subst (λ (n : ℕ). slice_index co 0 / n * n ≡ slice_index co 0) (sym wide) c.cell.invariant.whole_x)
    (subst (λ (n : ℕ). slice_index co 1 / n * n ≡ slice_index co 1) (sym wide) c.cell.invariant.whole_y)
    (subst (λ (n : ℕ). slice_index co 2 / n * n ≡ slice_index co 2) (sym wide) c.cell.invariant.whole_z)
    (record { near = c.gap.ensures.near }) (record { near = c.gap-2.ensures.near }) (record { near = c.gap-3.ensures.near })
    c.square_of.ensures.value c.square_of-2.ensures.value c.square_of-3.ensures.value t p e
