use Rattle.rank_laws.specs.Whole.{Whole}
use Rattle.rank_laws.specs.Protocol.{World}
use Rattle.rank_laws.specs.Machine.{Message as MessageOf, Rank as RankOf}
use Rattle.rank_field.specs.Machines.{HasFinished}
use Rattle.rank_field.proofs.Forced.{HasGathered}
use Rattle.rank_field.proofs.gathering.forces_of.Given as goal

abbrev pub invariant-loop-owner : goal.invariant-loop-owner
invariant-loop-owner l =
    (w : Whole) (z : World RankOf MessageOf) → HasFinished w z l.machine → HasGathered w z l.owner-index l.next.items l.forces.items
