use Rattle.groups.specs.Groups.{web}
use Rattle.groups.specs.Spreading.{IsDone}
use Rattle.groups.proofs.heads.heads_of.Given as goal

abbrev pub invariant-loop-p : goal.invariant-loop-p
invariant-loop-p l = IsDone (web l.reach l.bodies) l.p l.seen.items l.heads.items
