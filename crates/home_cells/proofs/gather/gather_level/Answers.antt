use Rattle.std.proofs.Common.{◌≡◌, ◌+◌, ◌*◌, ◌^◌, ap, sym, ◌∙◌}
use Rattle.cell_space.specs.Cells.{cell_at, corner, place}
use Rattle.hilbert_keys.proofs.Ranges.{corner_place}
use Rattle.home_cells.specs.Tables.{code_of}
use Rattle.home_cells.specs.Found.{gathered_below}
use Rattle.home_cells.proofs.Search.{to_leaves, from_leaves}
use Rattle.home_cells.proofs.gather.gather_level.Goals as goal

pub gather-requires-clause-sum : goal.gather-requires-clause-sum
gather-requires-clause-sum c =
    let at : place c.cell.inside.corner ≡ corner c.args.cell.now = corner_place c.cell.inside.level c.cell.inside.corner c.cell.invariant ∙ ap corner c.cell.view_is in
    let code : c.code_of.result ≡ code_of (cell_at c.args.level (corner c.args.cell.now)) = c.code_of.ensures.value ∙ ap code_of (c.cell_of.ensures ∙ ap (cell_at c.args.level) at) in
    λ d. c.requires.sum d
    ∙ to_leaves c.requires.told.0 c.args.kept.now.entries.now c.args.cell.now c.args.kept.now.order.now c.requires.told.1 c.requires.order c.is_of_box.ensures d c.args.level c.requires.level
    ∙ ap (λ n. gathered_below c.args.cell.now c.args.kept.now.entries.now c.args.kept.now.order.now d ((n * 2 + 1) * 2 ^ 25)) (sym code)

pub returns : goal.returns
returns c =
    let at : place c.cell.inside.corner ≡ corner c.args.cell.now = corner_place c.cell.inside.level c.cell.inside.corner c.cell.invariant ∙ ap corner c.cell.view_is in
    let code : c.code_of.result ≡ code_of (cell_at c.args.level (corner c.args.cell.now)) = c.code_of.ensures.value ∙ ap code_of (c.cell_of.ensures ∙ ap (cell_at c.args.level) at) in
    λ d. c.gather.ensures d
    ∙ ap (λ n. gathered_below c.args.cell.now c.args.kept.now.entries.now c.args.kept.now.order.now d ((n * 2 + 1) * 2 ^ 25 + 2 ^ 25)) code
    ∙ from_leaves c.requires.told.0 c.args.kept.now.entries.now c.args.cell.now c.args.kept.now.order.now c.requires.told.1 c.requires.order c.is_of_box.ensures d c.args.level c.requires.level
