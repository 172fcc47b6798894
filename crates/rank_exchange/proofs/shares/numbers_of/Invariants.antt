use Rattle.std.proofs.Common.{◌≡◌, List, take}
use Rattle.rank_laws.specs.Contents.{Summed}
use Rattle.rank_exchange.specs.Shares.{AreNumbers, places_in}
use Rattle.rank_exchange.proofs.shares.numbers_of.Given as goal

abbrev pub invariant-loop-i : goal.invariant-loop-i
invariant-loop-i l = (ts : List Summed) → l.places ≡ places_in ts → AreNumbers ts (take l.i l.kept) l.numbers.items
