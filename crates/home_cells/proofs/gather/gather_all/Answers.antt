use Rattle.home_cells.proofs.Search.{nothing_yet}
use Rattle.home_cells.proofs.gather.gather_all.Goals as goal

pub loop-level-init : goal.loop-level-init
loop-level-init c = λ d. nothing_yet c.requires.told.0 c.args.kept.now.entries.now c.args.cell.now c.args.kept.now.order.now c.requires.told.1 c.requires.order c.is_of_box.ensures d
