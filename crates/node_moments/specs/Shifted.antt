-- Sums from another corner.
use Rattle.std.specs.Prelude.{ℕ, ◌+◌, ◌-◌, ◌*◌, [], ◌∷◌, slice_index}
use Rattle.cell_space.specs.Cells.{CellData, corner}
use Rattle.node_moments.specs.Sums.{RawData}

-- the sum of mass times distance from a new corner, by that from the old
abbrev pub first_from : ℕ → ℕ → ℕ → ℕ → ℕ
first_from first mass old new = first + mass * old - mass * new

-- what a corner adds to the sum of mass times two distances
abbrev pub added : ℕ → ℕ → ℕ → ℕ → ℕ → ℕ
added mass a b first_a first_b = a * first_b + b * first_a + mass * (a * b)

-- the sum of mass times two distances from a new corner, by that from the old
abbrev pub second_from : ℕ → ℕ → ℕ → ℕ → ℕ → ℕ → ℕ → ℕ → ℕ
second_from second mass first_a first_b a b d e = second + added mass a b first_a first_b - added mass d e (first_from first_a mass a d) (first_from first_b mass b e)

-- all sums
abbrev pub shifted : RawData → CellData → RawData
shifted r c =
    let p = corner r.cell in
    let q = corner c in
    let x = slice_index r.mx 0 in
    let y = slice_index r.mx 1 in
    let z = slice_index r.mx 2 in
    record {
      cell = c;
      count = r.count;
      mass = r.mass;
      mx = first_from x r.mass p.x q.x ∷ first_from y r.mass p.y q.y ∷ first_from z r.mass p.z q.z ∷ [];
      mxx = second_from (slice_index r.mxx 0) r.mass x x p.x p.x q.x q.x ∷ second_from (slice_index r.mxx 1) r.mass y y p.y p.y q.y q.y ∷ second_from (slice_index r.mxx 2) r.mass z z p.z p.z q.z q.z ∷ second_from (slice_index r.mxx 3) r.mass x y p.x p.y q.x q.y ∷ second_from (slice_index r.mxx 4) r.mass x z p.x p.z q.x q.z ∷ second_from (slice_index r.mxx 5) r.mass y z p.y p.z q.y q.z ∷ [];
      lo = r.lo;
      hi = r.hi;
      eps = r.eps;
    }
