-- A walk by the opening rule and the forces of a gravity.
use Rattle.std.proofs.Common.{◌≡◌, Bool, true, List, [], ◌∷◌, refl, ap, ◌∙◌}
use Rattle.std.specs.Fn.{Shared}
use Rattle.std.specs.List.{filter}
use Rattle.fixed_point.specs.declared.V3.{V3}
use Rattle.fixed_point.specs.Vectors.{sum_of}
use Rattle.cell_space.specs.Cells.{CellData}
use Rattle.nbody_model.specs.Bodies.{BodyData}
use Rattle.nbody_model.specs.Tables.{Gravity}
use Rattle.nbody_model.specs.Covers.{interactions, opening_of}
use Rattle.nbody_model.specs.Force.{force_on, node_total, pair_force}
use Rattle.pair_law.specs.Laws.{Two, AnswersBy}
use Rattle.pair_law.proofs.Stored.{answers_from, law_from}
use Rattle.dual_walk.specs.Courses.{Follows, force_by, taken_by}
use Rattle.dual_walk.specs.Gravities.{gravity_course}

pub takes_interactions : (g : Gravity) (B : List BodyData) (mine : CellData → Bool) → taken_by (gravity_course g B mine) ≡ filter (λ x. mine x.0) (interactions (opening_of g.setup B))
unfolding taken_by
takes_interactions g B mine = refl

all_kept : {X : Type 0} (xs : List X) → filter (λ x. true) xs ≡ xs
all_kept [] = refl
all_kept (x ∷ xs) = ap (λ t. x ∷ t) (all_kept xs)

pub adds_totals : (g : Gravity) (B : List BodyData) (c : CellData) → sum_of (force_on (force_by (gravity_course g B (λ d. true))) c) (taken_by (gravity_course g B (λ d. true))) ≡ node_total g B c
unfolding node_total force_by pair_force
adds_totals g B c = ap (sum_of (force_on (force_by (gravity_course g B (λ d. true))) c)) (takes_interactions g B (λ d. true) ∙ all_kept (interactions (opening_of g.setup B)))

-- two closures that answer by them follow its course
pub follows_gravity : {A F : Type 0} (asks : Shared A Two Bool) (pulls : Shared F Two V3) (accept : A) (force : F) (g : Gravity) (B : List BodyData) (mine : CellData → Bool) → AnswersBy asks pulls accept force g → Follows asks pulls accept force (gravity_course g B mine)
follows_gravity asks pulls accept force g B mine h = record { law = law_from asks pulls accept force g h; answers = answers_from asks pulls accept force g h }
