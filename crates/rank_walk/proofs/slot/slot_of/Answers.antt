use Rattle.std.proofs.Common.{rules, ◌+◌, ◌*◌, ◌^◌, ap, sym, ◌∙◌, subst}
use Rattle.cell_space.specs.Cells.{CellData}
use Rattle.rank_walk.specs.Tables.{IsFresh}
use Rattle.rank_walk.proofs.Hears.{hears, short_first}
use Rattle.rank_walk.proofs.slot.slot_of.Goals as goal

pub order_of-order-requires-clause-short : goal.order_of-order-requires-clause-short
order_of-order-requires-clause-short g c = short_first c.requires.0 c.args.cell c.told-told.result (g.met.S.Source.seated c.args.source.now c.requires.0 c.requires.1.0).seat (search rules) (c.told-told.ensures c.requires.0 c.requires.1.0) c.requires.1.1

pub returns : goal.returns
returns g c = λ z v s. subst (IsFresh z c.args.cell) (sym c.slot_told.ensures) (hears z c.args.cell c.told-told.result c.order_of-order.result (search rules) (c.order_of-order.ensures ∙ ap (λ (t : CellData). t.level * 2 ^ 96 + c.told-told.result.first) c.cell.view_is) (c.told-told.ensures z v) s)
