use Rattle.std.proofs.Common.{◌≡◌, ◌≤◌, ◌*◌, ◌/◌, ◌^◌, take, sum_by}
use Rattle.force_sharing.proofs.turns.taken.Given as goal

abbrev pub invariant-loop-member : goal.invariant-loop-member
invariant-loop-member l = record {
  so_far : l.taken ≡ sum_by (λ m. l.s * m.1 / l.mass) (take l.member-index l.members);
  bound : l.taken ≤ l.member-index * 2 ^ 64;
}
