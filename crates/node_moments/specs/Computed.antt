-- Moments by sums from the corner.
use Rattle.std.specs.Prelude.{ℕ, ◌+◌, ◌*◌, ◌/◌, ℤ, pos, ◌-ℤ◌, ◌==◌, ◌&&◌, slice_index}
use Rattle.cell_space.specs.Cells.{corner}
use Rattle.nbody_model.specs.Moments.{MomentsData}
use Rattle.node_moments.specs.Sums.{RawData}

-- how far the centre is from the corner on an axis, rounded down
abbrev pub centre_from : RawData → ℕ → ℕ
centre_from r k = slice_index r.mx k / r.mass

-- a second moment about the centre, by the one about the corner and the sums of mass times distance
abbrev pub about : ℕ → ℕ → ℕ → ℕ → ℕ → ℕ → ℤ
about second mass d e first_d first_e = pos (second + mass * (d * e)) -ℤ pos (d * first_e + e * first_d)

abbrev pub about_centre : RawData → ℕ → ℕ → ℕ → ℤ
about_centre r pair j k = about (slice_index r.mxx pair) r.mass (centre_from r j) (centre_from r k) (slice_index r.mx j) (slice_index r.mx k)

-- the moments
abbrev pub moments_by : RawData → MomentsData
moments_by r = record {
  cell = r.cell;
  leaf = slice_index r.lo 0 == slice_index r.hi 0 && (slice_index r.lo 1 == slice_index r.hi 1 && slice_index r.lo 2 == slice_index r.hi 2);
  mass = r.mass;
  centre = record { x = (corner r.cell).x + centre_from r 0; y = (corner r.cell).y + centre_from r 1; z = (corner r.cell).z + centre_from r 2 };
  quad = record { xx = about_centre r 0 0 0; yy = about_centre r 1 1 1; zz = about_centre r 2 2 2; xy = about_centre r 3 0 1; xz = about_centre r 4 0 2; yz = about_centre r 5 1 2 };
  eps = r.eps;
}
