-- Where the cells around two positions part.
use Rattle.std.proofs.Common.{◌≡◌, ℕ, ◌-◌, Bool, true, false, refl, sym, ap, ◌∙◌, arith}
use Rattle.std.proofs.lemmas.Bool.{false≢true}
use Rattle.cell_space.specs.Cells.{Position, cell_at, same_cell, same_place, contains}
use Rattle.cell_space.proofs.Cells.{same_cell-exact, cell_at-contains, deepest_one}
use Rattle.force_field.specs.Levels.{Parts}

shared : (p q : Position) → cell_at 32 p ≡ cell_at 32 q → same_place p q ≡ true
shared p q e = deepest_one (cell_at 32 p) (omega arith) p q (cell_at-contains 32 p) (ap (λ c. contains c q) e ∙ cell_at-contains 32 q)

apart_at : (p q : Position) (b : Bool) → same_place p q ≡ false → same_cell (cell_at 32 p) (cell_at 32 q) ≡ b → b ≡ false
apart_at p q true differ e = absurd (false≢true (sym differ ∙ shared p q ((same_cell-exact (cell_at 32 p) (cell_at 32 q)).0 e)))
apart_at p q false differ e = refl

-- different positions part at the deepest level if not before
pub at_last : (p q : Position) (l : ℕ) → l ≡ 32 → same_place p q ≡ false → cell_at (l - 1) p ≡ cell_at (l - 1) q → Parts p q 32
at_last p q l e differ together = record {
  low = omega arith;
  high = omega arith;
  together = rw e at together;
  apart = let b = same_cell (cell_at 32 p) (cell_at 32 q) in (apart_at p q b differ refl);
}
