use Rattle.std.proofs.Common.{◌≡◌, ◌++◌, map, take}
use Rattle.fixed_point.specs.declared.V3.{V3}
use Rattle.rank_exchange.specs.declared.shares.Kept.{Kept}
use Rattle.rank_exchange.specs.Shares.{AreAxesOf, members_by, share_at}
use Rattle.rank_exchange.proofs.shares.push_shares.Given as goal

abbrev pub invariant-loop-i : goal.invariant-loop-i
invariant-loop-i l = (d : Kept) (N : V3) → AreAxesOf l.kept d l.numbers N l.x l.y l.z → l.out.items ≡ l.initial.out.items ++ map (share_at l.kept d N (members_by l.kept d l.numbers)) (take l.i l.numbers)
