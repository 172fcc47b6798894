use Rattle.std.proofs.Common.{◌≡◌, map, filter, take}
use Rattle.std.specs.List.{enumerate_from, zip}
use Rattle.time_bins.specs.Parts.{unfit}
use Rattle.time_bins.proofs.part.fast_part.Given as goal

abbrev pub invariant-loop-i : goal.invariant-loop-i
invariant-loop-i l = l.places.items ≡ map (λ p. p.0) (filter (λ p. unfit l.setup l.bin p.1) (take l.i (enumerate_from 0 (zip l.bodies l.forces))))
