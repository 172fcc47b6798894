use Rattle.std.proofs.Common.{◌≡◌, ◌≤◌, ◌*◌, ◌^◌, length, map, take}
use Rattle.octree_build.specs.Slots.{keys_below}
use Rattle.rank_exchange.specs.declared.shares.Kept.{Kept}
use Rattle.rank_exchange.specs.Shares.{shared_at}
use Rattle.rank_exchange.proofs.shares.share_all.Given as goal

abbrev pub invariant-loop-k : goal.invariant-loop-k
invariant-loop-k l = record {
  low : l.low ≡ keys_below l.numbers (l.k * 2 ^ 96);
  within : l.low ≤ length l.numbers;
  out : (d : Kept) → l.out.items ≡ map (shared_at l.totals l.kept d) (take l.low l.numbers);
  scratch : l.room.scratch ≡ l.initial.room.scratch;
}
