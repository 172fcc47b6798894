use Rattle.std.proofs.Common.{ap, sym, subst, ◌∙◌}
use Rattle.cell_space.specs.Cells.{same_cell}
use Rattle.node_moments.specs.Sums.{RawData}
use Rattle.node_moments.specs.Conditions.{IsOfNode}
use Rattle.std.specs.Prelude.{slice_index_or, ◌%◌, ◌^◌}
use Rattle.home_cells.proofs.Joining.{node_with, empty, part_seen, part_away}
use Rattle.home_cells.proofs.found.part.Goals as goal

pub seen_from-requires-clause-node : goal.seen_from-requires-clause-node
seen_from-requires-clause-node c = subst IsOfNode (sym (c.raw_at-raw.ensures empty)) (node_with c.requires.told.0 c.args.entries.now c.args.cell.now c.requires.told.1 c.args.number c.requires.number empty)

pub returns-then-is_around : goal.returns-then-is_around
returns-then-is_around c = λ d.
    part_seen c.args.cell.now (slice_index_or c.args.entries.now (c.args.number % 2 ^ 25) d) c.raw_at-raw.result (c.raw_at-raw.ensures d)
    (c.if-same.ensures.tested ∙ ap (λ (r : RawData). same_cell r.cell c.args.cell.now) c.raw.view_is)
    c.seen_from.result c.if-is_around.ensures c.seen_from.ensures.raw c.seen_from.ensures.children

pub returns : goal.returns
returns c = λ d.
    part_away c.args.cell.now (slice_index_or c.args.entries.now (c.args.number % 2 ^ 25) d) c.raw_at-raw.result (c.raw_at-raw.ensures d)
    (c.if-same.ensures.tested ∙ ap (λ (r : RawData). same_cell r.cell c.args.cell.now) c.raw.view_is)
    c.if-is_around.ensures
