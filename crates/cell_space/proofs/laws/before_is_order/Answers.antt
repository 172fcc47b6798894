use Rattle.std.proofs.Common.{◌≡◌, false, sym, ◌∙◌}
use Rattle.std.proofs.lemmas.Bool.{false≢true}
use Rattle.cell_space.specs.Cells.{CellData, before}
use Rattle.cell_space.proofs.Orders.{Placed, Same, Earlier, Later, placed, before-itself, before-trans}
use Rattle.cell_space.proofs.laws.before_is_order.Goals as goal

one : (a b : CellData) → Placed a b → before a b ≡ false → before b a ≡ false → a ≡ b
one a b (Same e) h k = e
one a b (Earlier u v) h k = absurd (false≢true (sym h ∙ u))
one a b (Later u v) h k = absurd (false≢true (sym k ∙ v))

pub returns : goal.returns
returns c = record { never = before-itself; handed_on = before-trans; total = λ a b. one a b (placed a b) }
