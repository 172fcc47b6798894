-- How the mean over a cell of the grid is taken: one axis after the other.
use Rattle.std.specs.Prelude.{ℕ, ◌+◌, ℤ, ◌+ℤ◌, pos, List, map, get_or}
use Rattle.fixed_point.specs.declared.V3.{V3}
use Rattle.nbody_model.specs.Scaling.{◌·◌}
use Rattle.nbody_model.specs.Tables.{TableData, entry_at}
use Rattle.nbody_model.specs.Correction.{corners}
use Rattle.ewald_table.specs.declared.place.Place.{Place}

-- two numbers, by how much the two points at a place count
abbrev pub mixed : Place → ℤ → ℤ → ℤ
mixed p a b = (p.near · a) +ℤ (p.far · b)

-- one of eight numbers
abbrev pub number : List ℤ → ℕ → ℤ
number numbers i = get_or numbers i (pos 0)

-- the mean of the numbers at the corners of a cell, x fastest, times the widths on the three axes
abbrev pub mixed_all : Place → Place → Place → List ℤ → ℤ
mixed_all x y z numbers =
    mixed z
    (mixed y (mixed x (number numbers 0) (number numbers 1)) (mixed x (number numbers 2) (number numbers 3)))
    (mixed y (mixed x (number numbers 4) (number numbers 5)) (mixed x (number numbers 6) (number numbers 7)))

-- the numbers of an axis at the corners of the cell that begins at a point
abbrev pub at_corners : (V3 → ℤ) → TableData → ℕ → ℕ → ℕ → List ℤ
at_corners get t i j k = map (λ c. get (entry_at t (i + c.x) (j + c.y) (k + c.z))) corners
