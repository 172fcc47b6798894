use Rattle.std.proofs.Common.{◌≡◌, take}
use Rattle.std.specs.List.{sum_by}
use Rattle.rank_laws.specs.Whole.{Whole, ranks}
use Rattle.rank_laws.specs.Protocol.{World}
use Rattle.rank_laws.specs.Machine.{Message as MessageOf, Rank as RankOf}
use Rattle.rank_field.specs.Machines.{HasFinished}
use Rattle.rank_field.proofs.Gathered.{count_at}
use Rattle.rank_field.proofs.gathering.counted.Given as goal

abbrev pub invariant-loop-rank : goal.invariant-loop-rank
invariant-loop-rank l =
    (w : Whole) (z : World RankOf MessageOf) → HasFinished w z l.machine → l.count ≡ sum_by (count_at w z) (take l.rank-index (ranks w))
