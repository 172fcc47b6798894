-- Where the cells around two positions part.
use Rattle.std.specs.Prelude.{◌≡◌, ℕ, ◌-◌, ◌≤◌, false, List, get_or}
use Rattle.cell_space.specs.Cells.{Position, cell_at, same_cell}
use Rattle.nbody_model.specs.Bodies.{BodyData}
use Rattle.nbody_model.specs.Covers.{Opening, cover}

-- the least level, not 0, at which two positions lie in different cells
pub record Parts (p q : Position) (level : ℕ) : Type 0 where
  pub low : 1 ≤ level
  pub high : level ≤ 32
  pub together : cell_at (level - 1) p ≡ cell_at (level - 1) q
  pub apart : same_cell (cell_at level p) (cell_at level q) ≡ false

-- the cover of two bodies at p and q is their cells of these levels
abbrev pub IsCover : Opening → Position → Position → ℕ → ℕ → Type 0
IsCover o p q a b = cover o p q ≡ (cell_at a p, cell_at b q)

-- the same for the bodies at two places of a list
abbrev pub IsCoverAt : Opening → List BodyData → ℕ → ℕ → ℕ → ℕ → Type 0
IsCoverAt o B i j k l = (b d : BodyData) → IsCover o (get_or B i b).motion.pos (get_or B j d).motion.pos k l
