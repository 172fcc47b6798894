-- What is asked of two closures that decide and compute pairs.
use Rattle.std.specs.Prelude.{◌≤◌, ◌+◌, ◌^◌, IsTrue}
use Rattle.nbody_model.specs.Moments.{MomentsData}
use Rattle.nbody_model.specs.Tables.{Gravity}
use Rattle.pair_law.specs.Conditions.{is_final}

-- two nodes of at most 2^32 together that act on each other as wholes
abbrev pub MayPull : Gravity → MomentsData → MomentsData → Type 0
MayPull g a b = a.mass + b.mass ≤ 2 ^ 32 × IsTrue (is_final g.setup a b)
