use Rattle.std.proofs.Common.{◌-◌, ◌^◌, length}
use Rattle.rank_laws.specs.Whole.{Whole}
use Rattle.rank_laws.specs.Protocol.{World}
use Rattle.rank_laws.specs.Machine.{Message as MessageOf, Rank as RankOf}
use Rattle.rank_field.specs.Machines.{IsMachine}
use Rattle.rank_field.specs.Fields.{picks_of}
use Rattle.rank_field.proofs.Picking.{HasPicked}
use Rattle.rank_field.proofs.play.play.Given as goal

abbrev pub invariant-loop-alloc : goal.invariant-loop-alloc
invariant-loop-alloc g l =
    (w : Whole) (z : World RankOf MessageOf) → IsMachine w z l.fn.machine →
    HasPicked (picks_of g.K.Schedule) w z (g.K.Schedule.state l.fn.order) l.events.items (g.K.Schedule.state l.order) l.machine

abbrev pub decreases-loop-alloc : goal.decreases-loop-alloc
decreases-loop-alloc g l = 2 ^ 64 - length l.events.items
