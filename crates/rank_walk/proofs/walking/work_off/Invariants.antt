use Rattle.rank_walk.specs.Seats.{Seat, side}
use Rattle.rank_walk.specs.Walked.{IsAt, MayWork, work}
use Rattle.rank_walk.specs.Slots.{cells}
use Rattle.rank_walk.proofs.Steps.{plan_of}
use Rattle.rank_walk.proofs.walking.work_off.Given as goal
use Rattle.cell_space.specs.Cells.{CellData}
use Rattle.std.proofs.Common.{map, List}

abbrev pub invariant-loop-x : goal.invariant-loop-x
invariant-loop-x g l =
    (z : Seat) → g.S.Source.serves l.source z → (replies : List CellData) → MayWork (side z replies) l.fn.heard l.list l.fn.count → IsAt (side z replies) (plan_of (side z replies) l.fn.heard l.list l.fn.count) l.heard l.stack.items l.wait.items l.count

abbrev pub decreases-loop-x : goal.decreases-loop-x
decreases-loop-x g l = work (map (cells l.heard.slots.items) l.stack.items)
