-- The bodies that are drawn from a seed.
use Rattle.std.specs.Prelude.{ℕ, ◌+◌, ◌*◌, ◌%◌, List, [], ◌∷◌, map}
use Rattle.std.specs.List.{range_with_len}
use Rattle.nbody_model.specs.Bodies.{BodyData}
use Rattle.particle_set.specs.declared.row.Row.{Row}
use Rattle.particle_set.specs.Rows.{body_of}
use Rattle.made_bodies.specs.Draws.{draw, momentum_of}

-- a body by seven numbers: its position, its mass and its momentum
unfoldable pub row_by : (ℕ → ℕ) → ℕ → Row
row_by out id =
    record {
      id = id;
      kind = 1;
      mass = 2048 + out 3 % 2048;
      pos = out 0 ∷ out 1 ∷ out 2 ∷ [];
      mom = momentum_of (out 4) ∷ momentum_of (out 5) ∷ momentum_of (out 6) ∷ [];
    }

-- the body at a place, counted from 0, by the next seven draws
abbrev pub drawn_row : ℕ → ℕ → Row
drawn_row seed i = row_by (λ k. draw seed (7 * i + k)) (i + 1)

abbrev pub drawn_rows : ℕ → ℕ → List Row
drawn_rows seed count = map (drawn_row seed) (range_with_len 0 count)

-- so many bodies, with the ids from 1 on
abbrev pub drawn_bodies : ℕ → ℕ → List BodyData
drawn_bodies seed count = map body_of (drawn_rows seed count)
