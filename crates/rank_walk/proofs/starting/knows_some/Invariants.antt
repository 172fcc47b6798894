use Rattle.std.proofs.Common.{◌≡◌, take, false}
use Rattle.std.specs.List.{list_any}
use Rattle.rank_walk.specs.Starts.{knows_places}
use Rattle.rank_walk.proofs.starting.knows_some.Given as goal

abbrev pub invariant-loop-i : goal.invariant-loop-i
invariant-loop-i l = list_any (knows_places l.slots) (take l.i l.list) ≡ false
