use Rattle.std.proofs.Common.{◌≡◌, ◌≤◌, Bool, rules}
use Rattle.std.specs.Bool.{Decides}
use Rattle.cell_space.specs.Cells.{CellData, AreDisjoint, disjoint}
use Rattle.cell_space.proofs.Nested.{disjoint-exact}
use Rattle.cell_space.proofs.cell.Cell.disjoint.Goals as goal

decides_from : (a b : CellData) (t : Bool) → a.level ≤ 32 → b.level ≤ 32 → t ≡ disjoint a b → Decides t (AreDisjoint a b)
decides_from a b t h k e = rw e (disjoint-exact a b h k)

pub returns-then-not-contains-clause-decides : goal.returns-then-not-contains-clause-decides
returns-then-not-contains-clause-decides c = decides_from c.args.self.now c.args.other.now _ (search rules) (search rules) (search rules)

pub returns-else-not-contains-clause-decides : goal.returns-else-not-contains-clause-decides
returns-else-not-contains-clause-decides c = decides_from c.args.self.now c.args.other.now _ (search rules) (search rules) (search rules)
