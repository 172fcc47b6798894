use Rattle.std.proofs.Common.{◌≡◌, take}
use Rattle.rank_field.specs.Machines.{all_handed}
use Rattle.rank_field.proofs.division.hand_out.Given as goal

abbrev pub invariant-loop-i : goal.invariant-loop-i
invariant-loop-i l = l.lists.items ≡ all_handed (take l.i l.bodies) (take l.i l.owners) l.ranks
