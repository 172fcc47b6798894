use Rattle.std.proofs.Common.{◌≡◌, ◌<◌, ℕ, pos, get_or}
use Rattle.force_sharing.specs.Turns.{share_by}
use Rattle.force_sharing.proofs.sharing.write_shares.Given as goal

abbrev pub invariant-loop-i : goal.invariant-loop-i
invariant-loop-i l = record {
  written : (k : ℕ) → k < l.i → get_or l.out k (pos 0) ≡ share_by l.quotient l.s l.mass l.last (get_or l.members k (0, 0));
}
