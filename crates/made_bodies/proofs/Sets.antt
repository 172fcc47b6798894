-- Rows that are drawn are a set.
use Rattle.std.proofs.Common.{◌≡◌, ℕ, ◌+◌, ◌*◌, ◌/◌, ◌<◌, ◌≤◌, ◌^◌, List, length, All, refl, ap, ◌∙◌, arith, lit<}
use Rattle.std.specs.List.{range_with_len}
use Rattle.std.specs.List.Sorted.{IsStrictlyIncreasing}
use Rattle.std.proofs.lemmas.List.{get_or-map, length-map}
use Rattle.std.proofs.lemmas.List.Elements.{All-map}
use Rattle.std.proofs.lemmas.List.FromFn.{length-map-range_with_len, get_or-map-range_with_len}
use Rattle.std.proofs.lemmas.List.Sorted.{IsPermutation-refl}
use Rattle.std.proofs.lemmas.List.Sums.{sum_by-le}
use Rattle.std.proofs.lemmas.Int.{ints}
use Rattle.std.proofs.lemmas.Nat.{div_below, mod_below}
use Rattle.fixed_point.specs.Fixed.{IsMomentum}
use Rattle.particle_set.specs.declared.row.Row.{Row}
use Rattle.particle_set.specs.declared.row.SetErr.{SetErr}
use Rattle.particle_set.specs.Rows.{HasKind, HasMass, HasMomentum, IsFirstRefusal, IsRefusalByMemory, IsSetOf, ids, total_mass}
use Rattle.particle_set.proofs.OneSet.{no_refusal, one_set}
use Rattle.particle_set.proofs.RowLemmas.{IsValid-bodies}
use Rattle.nbody_model.specs.Bodies.{BodyData}
use Rattle.made_bodies.specs.Draws.{draw, momentum_of}
use Rattle.made_bodies.specs.Drawn.{drawn_bodies, drawn_row, drawn_rows, row_by}
use Rattle.made_bodies.proofs.Drawing.{draw_below}

-- what holds of each row that is drawn
each : (P : Row → Type 0) (seed count : ℕ) → ((i : ℕ) → P (drawn_row seed i)) → All P (drawn_rows seed count)
each P seed count h = All-map P (drawn_row seed) (range_with_len 0 count) (λ k d l. h _)

long : (seed count : ℕ) → length (drawn_rows seed count) ≡ count
long seed count = length-map-range_with_len (drawn_row seed) 0 count

-- ---- ids

id_at : (seed count k : ℕ) → k < count → (drawn_row seed k).id ≡ k + 1
unfolding row_by
id_at seed count k l = refl

rise : (seed count : ℕ) → IsStrictlyIncreasing (ids (drawn_rows seed count))
rise seed count k l =
    let rows = drawn_rows seed count in
    let first = drawn_row seed 0 in
    let all : length (ids rows) ≡ count = length-map rows (λ r. r.id) ∙ long seed count in
    let within : k + 1 < count = omega (arith, l, all) in
    let size : length rows ≡ count = long seed count in
    let here = get_or-map (λ (r : Row). r.id) rows k first 0 (omega arith) ∙ ap (λ (r : Row). r.id) (get_or-map-range_with_len (drawn_row seed) 0 count k k first (omega arith) (omega arith)) ∙ id_at seed count k (omega arith) in
    let next = get_or-map (λ (r : Row). r.id) rows (k + 1) first 0 (omega arith) ∙ ap (λ (r : Row). r.id) (get_or-map-range_with_len (drawn_row seed) 0 count (k + 1) (k + 1) first within (omega arith)) ∙ id_at seed count (k + 1) within in
    omega (arith, here, next)

-- ---- kinds, masses and momenta

pub kinds : (seed count : ℕ) → All HasKind (drawn_rows seed count)
unfolding row_by
kinds seed count = each HasKind seed count one
  where
    one : (i : ℕ) → HasKind (drawn_row seed i)
    one i = record { low = omega arith; high = omega arith }

massive : (seed count : ℕ) → All HasMass (drawn_rows seed count)
unfolding row_by
massive seed count = each HasMass seed count one
  where
    one : (i : ℕ) → HasMass (drawn_row seed i)
    one i = record { low = omega arith }

light : (seed count : ℕ) → count ≤ 1048576 → total_mass (drawn_rows seed count) ≤ 2 ^ 32
unfolding row_by
light seed count few = omega (arith, sum_by-le (λ (r : Row). r.mass) 4095 (drawn_rows seed count) (each (λ r. r.mass ≤ 4095) seed count one), long seed count)
  where
    one : (i : ℕ) → (drawn_row seed i).mass ≤ 4095
    one i = omega (arith, mod_below (draw seed (7 * i + 3)) 2048 (lit< tt))

momentum : (s k : ℕ) → IsMomentum (momentum_of (draw s k))
momentum s k =
    let small : draw s k / 4096 < 1048576 = div_below (draw s k) 4096 1048576 (lit< tt) (omega (arith, draw_below s k)) in
    (omega (arith, ints), omega (arith, ints))

in_range : (seed count : ℕ) → All HasMomentum (drawn_rows seed count)
unfolding row_by
in_range seed count = each HasMomentum seed count one
  where
    one : (i : ℕ) → HasMomentum (drawn_row seed i)
    one i = record { in_range = record { on_x = momentum seed (7 * i + 4); on_y = momentum seed (7 * i + 5); on_z = momentum seed (7 * i + 6) } }

-- ---- all of it

are_set : (seed count : ℕ) → count ≤ 1048576 → IsSetOf (drawn_rows seed count) (drawn_bodies seed count)
are_set seed count few =
    let rows = drawn_rows seed count in
    let size : length rows ≤ 1048576 = rw (long seed count) few in
    record {
      bodies = IsPermutation-refl (drawn_bodies seed count);
      valid = IsValid-bodies rows (rise seed count) size (light seed count few);
      massive = massive seed count;
      in_range = in_range seed count;
    }

-- whatever set these rows are made into, it is the bodies that are drawn
pub the_set : (seed count : ℕ) (rows : List Row) (B : List BodyData) → count ≤ 1048576 → rows ≡ drawn_rows seed count → IsSetOf rows B → B ≡ drawn_bodies seed count
the_set seed count rows B few e h = one_set (drawn_rows seed count) B (drawn_bodies seed count) (rw e at h) (are_set seed count few)

-- and nothing but want of memory refuses them
pub only_memory : (seed count : ℕ) (rows : List Row) (e : SetErr) → count ≤ 1048576 → rows ≡ drawn_rows seed count → IsFirstRefusal rows e → IsRefusalByMemory e
only_memory seed count rows e few same h = no_refusal (drawn_rows seed count) (drawn_bodies seed count) e (are_set seed count few) (rw same at h)
