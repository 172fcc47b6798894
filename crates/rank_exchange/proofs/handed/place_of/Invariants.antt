use Rattle.std.proofs.Common.{◌≤◌, ◌<◌, ◌-◌, ℕ, length, get_or}
use Rattle.rank_exchange.specs.declared.keyed.Keyed.{Keyed}
use Rattle.rank_exchange.proofs.handed.place_of.Given as goal

abbrev pub invariant-loop-low : goal.invariant-loop-low
invariant-loop-low l = record {
  order : l.low ≤ l.high;
  within : l.high ≤ length l.entries;
  before : (i : ℕ) (d : Keyed) → i < l.low → (get_or l.entries i d).key < l.key;
  behind : (i : ℕ) (d : Keyed) → l.high ≤ i → i < length l.entries → l.key ≤ (get_or l.entries i d).key;
}

abbrev pub decreases-loop-low : goal.decreases-loop-low
decreases-loop-low l = l.high - l.low
