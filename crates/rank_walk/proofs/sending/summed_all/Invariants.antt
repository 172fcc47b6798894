use Rattle.std.proofs.Common.{◌≡◌, map, take}
use Rattle.rank_walk.specs.Sent.{sum_of_place}
use Rattle.rank_walk.proofs.sending.summed_all.Given as goal

abbrev pub invariant-loop-i : goal.invariant-loop-i
invariant-loop-i l = l.out.items ≡ map (λ r. sum_of_place l.slots l.sums r.place) (take l.i l.ranked)
