use Rattle.std.proofs.Common.{◌≡◌, ℕ, take}
use Rattle.std.specs.BTreeMap.{get}
use Rattle.std.specs.Ordering.{nat_cmp}
use Rattle.rank_walk.specs.Asked.{noted}
use Rattle.rank_walk.proofs.ranked.note.Given as goal

abbrev pub invariant-loop-i : goal.invariant-loop-i
invariant-loop-i l = (o : ℕ) → get nat_cmp l.places o ≡ noted (take l.i l.ranked) o (get nat_cmp l.fn.places o)
