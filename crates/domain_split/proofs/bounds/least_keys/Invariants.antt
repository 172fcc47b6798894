use Rattle.std.proofs.Common.{◌^◌, replicate}
use Rattle.domain_split.proofs.Lowered.{AreLowered}
use Rattle.domain_split.proofs.bounds.least_keys.Given as goal

abbrev pub invariant-loop-i : goal.invariant-loop-i
invariant-loop-i l = AreLowered (replicate l.ranks (2 ^ 96)) l.bounds.items l.bodies l.owner l.i
