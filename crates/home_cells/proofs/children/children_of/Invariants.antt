use Rattle.std.proofs.Common.{◌≡◌, ℕ, ◌<◌, eqb, take}
use Rattle.std.specs.Int.{bit_at}
use Rattle.std.specs.List.{list_any}
use Rattle.cell_space.specs.Cells.{digit}
use Rattle.home_cells.proofs.children.children_of.Given as goal

abbrev pub invariant-loop-i : goal.invariant-loop-i
invariant-loop-i l = (k : ℕ) → k < 8 → eqb (bit_at l.bits k) 1 ≡ list_any (λ b. eqb (digit b.motion.pos l.level) k) (take l.i l.members)
