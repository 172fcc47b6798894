use Rattle.std.specs.Prelude.{true, false, ◌∷◌, [], pos}
use Rattle.dual_walk.proofs.tests.three_bodies_at_one_place.Given as goal

abbrev pub ghost-walk_all : goal.ghost-walk_all
ghost-walk_all g a = record {
  setup = record { time_max = 0; low_bin = 1; top_bin = 1; theta = 0; eta = 1; gravity = 0; velocity_shift = 0; soft = 256 ∷ 256 ∷ 512 ∷ 1024 ∷ 2048 ∷ 4096 ∷ [] };
  bodies = a.bodies.now;
  law = record { accept = λ p q. false; force = λ p q. record { x = pos 1; y = pos 0; z = pos 0 } };
  mine = λ c. true;
}
