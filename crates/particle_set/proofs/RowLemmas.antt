-- Rows that stand ascending in id, and their bodies.
use Rattle.std.proofs.Common.{◌≡◌, ◌+◌, ◌<◌, ◌≤◌, ◌^◌, List, [], ◌∷◌, length, map, sum, sum_by, refl, ap, sym, ◌∙◌, arith}
use Rattle.std.specs.List.{AllAdjacentBelow}
use Rattle.std.specs.List.Sorted.{IsStrictlyIncreasing}
use Rattle.std.proofs.lemmas.List.{get_or-map, length-map}
use Rattle.std.proofs.lemmas.List.Sums.{sum-map}
use Rattle.nbody_model.specs.Bodies.{BodyData, IsValid}
use Rattle.particle_set.specs.declared.row.Row.{Row}
use Rattle.particle_set.specs.Rows.{body_of, ids, total_mass}

pub ids-rise : (rows : List Row) → AllAdjacentBelow (λ x y. x.id < y.id) rows (length rows) → IsStrictlyIncreasing (ids rows)
ids-rise [] h k lt = absurd (omega (arith, lt))
ids-rise (r ∷ rows) h k lt =
    let within : k + 1 < length (r ∷ rows) = rw (length-map (r ∷ rows) (λ r. r.id)) at lt in
    rw (get_or-map (λ r. r.id) (r ∷ rows) k r 0 (omega arith), get_or-map (λ r. r.id) (r ∷ rows) (k + 1) r 0 within) (h k r within)

pub ids-bodies : (rows : List Row) → map (λ b. b.id) (map body_of rows) ≡ ids rows
ids-bodies [] = refl
ids-bodies (r ∷ rows) = ap (λ ks. r.id ∷ ks) (ids-bodies rows)

mass_list-bodies : (rows : List Row) → map (λ b. b.mass) (map body_of rows) ≡ map (λ r. r.mass) rows
mass_list-bodies [] = refl
mass_list-bodies (r ∷ rows) = ap (λ ks. r.mass ∷ ks) (mass_list-bodies rows)

pub masses-bodies : (rows : List Row) → sum_by (λ b. b.mass) (map body_of rows) ≡ total_mass rows
masses-bodies rows = sym (sum-map (λ (b : BodyData). b.mass) (map body_of rows)) ∙ ap sum (mass_list-bodies rows) ∙ sum-map (λ (r : Row). r.mass) rows

pub IsValid-bodies : (rows : List Row) → IsStrictlyIncreasing (ids rows) → length rows ≤ 1048576 → total_mass rows ≤ 2 ^ 32 → IsValid (map body_of rows)
IsValid-bodies rows up few light = record {
  ascending = rw (ids-bodies rows) up;
  few = rw (length-map rows body_of) few;
  light = rw (masses-bodies rows) light;
}
