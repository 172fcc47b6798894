use Rattle.std.proofs.Common.{◌≡◌, ◌<◌, ◌^◌, ℕ, get_or}
use Rattle.force_sharing.specs.Turns.{turn}
use Rattle.force_sharing.proofs.turns.write_turns.Given as goal

abbrev pub invariant-loop-i : goal.invariant-loop-i
invariant-loop-i l = record {
  written : (k : ℕ) → k < l.i → get_or l.turns k 0 ≡ turn l.s l.mass (get_or l.members k (0, 0));
  ids : (k : ℕ) → k < l.i → (get_or l.members k (0, 0)).0 < 2 ^ 64;
}
