use Rattle.std.proofs.Common.{◌+◌, ◌-◌, length}
use Rattle.groups.specs.Groups.{web}
use Rattle.groups.specs.Spreading.{IsSpread, free}
use Rattle.groups.proofs.search.spread.Given as goal

abbrev pub invariant-loop-cursor : goal.invariant-loop-cursor
invariant-loop-cursor l = IsSpread (web l.reach l.finder) l.p l.fn.seen l.seen l.list.items l.cursor

abbrev pub decreases-loop-cursor : goal.decreases-loop-cursor
decreases-loop-cursor l = length l.list.items + free l.seen - l.cursor
