use Rattle.std.proofs.Common.{◌+◌, ◌*◌, ◌^◌, refl, ap, ◌∙◌}
use Rattle.std.specs.List.{list_any}
use Rattle.cell_space.specs.Cells.{CellData}
use Rattle.rank_walk.specs.Starts.{knows_places}
use Rattle.rank_walk.proofs.Replies.{awaited_keys, told_place, walker_hears}
use Rattle.rank_walk.proofs.walker.Walker.hear.Goals as goal

pub order_of-requires-clause-short : goal.order_of-requires-clause-short
order_of-requires-clause-short c = awaited_keys c.requires.seat.0 c.requires.seat.1.0 c.args.self.now c.args.cell c.args.first c.args.known c.requires.seat.1.1

pub know-requires : goal.know-requires
know-requires c = (told_place c.requires.seat.0 c.requires.seat.1.0 c.args.self.now c.args.cell c.args.first c.args.known c.requires.seat.1.1 c.order_of.result (c.order_of.ensures ∙ ap (λ (t : CellData). t.level * 2 ^ 96 + c.args.first) c.cell.view_is) c.place_of-place.result c.place_of-place.ensures).0

pub returns : goal.returns
returns c = λ z s a. walker_hears z s c.args.self.now a.walker c.args.cell a.asked c.place_of-place.result (told_place z s c.args.self.now c.args.cell c.args.first c.args.known a c.order_of.result (c.order_of.ensures ∙ ap (λ (t : CellData). t.level * 2 ^ 96 + c.args.first) c.cell.view_is) c.place_of-place.result c.place_of-place.ensures).0 (told_place z s c.args.self.now c.args.cell c.args.first c.args.known a c.order_of.result (c.order_of.ensures ∙ ap (λ (t : CellData). t.level * 2 ^ 96 + c.args.first) c.cell.view_is) c.place_of-place.result c.place_of-place.ensures).1 c.args.known a.known
    _ c.know.ensures refl refl refl refl refl refl refl (c.knows_some-self.ensures ∙ (λ i. list_any (knows_places (c.deref.ensures.value i)) (c.deref-2.ensures.value i)))
