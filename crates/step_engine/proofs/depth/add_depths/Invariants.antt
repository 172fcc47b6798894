use Rattle.std.proofs.Common.{◌≡◌, ◌<◌, ◌≤◌, ◌+◌, ℕ, List, length, min, get_or}
use Rattle.step_engine.proofs.depth.add_depths.Given as goal

-- the first depths are grown, and the others are as they were
pub record Grown (most place : ℕ) (outer old new : List ℕ) : Type 0 where
  pub long : length new ≡ length old
  pub done : (i : ℕ) → i < place → get_or new i 0 ≡ get_or old i 0 + min (get_or outer i 0) most
  pub left : (i : ℕ) → place ≤ i → get_or new i 0 ≡ get_or old i 0

abbrev pub invariant-loop-place : goal.invariant-loop-place
invariant-loop-place l = Grown l.most l.place l.outer l.fn.depth.items l.depth.items
